-- A search for all that pairs lead to from a tag: the tags that are reached, and the pairs that wait.
use Rattle.std.specs.Prelude.{◌≡◌, ◌↔◌, ℕ, Bool, true, Contains, not, ◌==◌, if◌then◌else◌, List, [], ◌∷◌, ◌++◌}
use Rattle.std.specs.List.{list_any}
use Rattle.sibling_chains.specs.Following.{Pair}

-- a list has a tag
abbrev pub has : List ℕ → ℕ → Bool
has list b = list_any (λ x. b == x) list

-- the list with a tag, put last unless it is there
abbrev pub with_tag : List ℕ → ℕ → List ℕ
with_tag list b = if has list b then list else list ++ b ∷ []

-- the list with the parents of a child
abbrev pub with_parents : ℕ → List Pair → List ℕ → List ℕ
with_parents child [] list = list
with_parents child (p ∷ pairs) list = with_parents child pairs (if p.0 == child then with_tag list p.1 else list)

-- the pair is another child's
abbrev pub is_of_other : ℕ → Pair → Bool
is_of_other child p = not (p.0 == child)

-- another tag
abbrev pub is_not : ℕ → ℕ → Bool
is_not tag b = not (b == tag)

-- the keys are the tags of the list
abbrev pub AreSeen : List ℕ → List ℕ → Type 0
AreSeen list keys = (b : ℕ) → (has list b ≡ true) ↔ Contains keys b

-- Which tag would imply too many, in which service: the lowest service in which one would, and the lowest such tag.
use Rattle.std.specs.Prelude.{ℕ, List, [], ◌∷◌, find, Option, None}
use Rattle.std.specs.List.{range_with_len}
use Rattle.std.specs.Option.{option_map, option_or}
use Rattle.parent_closure.specs.Ancestors.{Relations, is_over}

-- what the first of a list that has something has
abbrev pub first_some : {A B : Type 0} → (A → Option B) → List A → Option B
first_some f [] = None
first_some f (x ∷ xs) = option_or (f x) (first_some f xs)

-- the first of these tags that would imply too many of n tags in a service, behind the service
abbrev pub over_in : ℕ → (ℕ → Relations) → List ℕ → ℕ → Option (ℕ × ℕ)
over_in n relations tags s = option_map (λ t. (s, t)) (find (is_over n (relations s)) tags)

-- the first of so many services in which one of these tags would, and the tag
abbrev pub over_among : ℕ → ℕ → (ℕ → Relations) → List ℕ → Option (ℕ × ℕ)
over_among services n relations tags = first_some (over_in n relations tags) (range_with_len 0 services)

-- the same of all n tags
abbrev pub over_limit : ℕ → ℕ → (ℕ → Relations) → Option (ℕ × ℕ)
over_limit services n relations = over_among services n relations (range_with_len 0 n)

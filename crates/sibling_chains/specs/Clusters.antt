-- Sets of tags that have nothing to do with one another. A set is a test of tag numbers.
use Rattle.std.specs.Prelude.{◌≡◌, ℕ, Bool, not, ◌||◌, ◌==◌, if◌then◌else◌, min, List, [], ◌∷◌, filter, All}
use Rattle.sibling_chains.specs.Following.{Pair}
use Rattle.sibling_chains.specs.declared.relation_row.RelationRow.{RelationRow}

abbrev pub outside : (ℕ → Bool) → ℕ → Bool
outside S t = not (S t)

-- of each row both tags are in the set, or neither
abbrev pub IsClosed : (ℕ → Bool) → List RelationRow → Type 0
IsClosed S rows = All (λ row. S row.first.0 ≡ S row.second.0) rows

-- the rows whose tags are in the set, of a list for which it is closed
abbrev pub rows_within : (ℕ → Bool) → List RelationRow → List RelationRow
rows_within S rows = filter (λ row. S row.first.0) rows

-- labels once the tags of a pair are joined: each tag with one of the two labels gets the lesser
abbrev pub joined : Pair → (ℕ → ℕ) → ℕ → ℕ
joined p L t = if L t == L p.0 || L t == L p.1 then min (L p.0) (L p.1) else L t

abbrev pub labels_after : (ℕ → ℕ) → List Pair → ℕ → ℕ
labels_after L [] = L
labels_after L (p ∷ pairs) = labels_after (joined p L) pairs

-- the labels of tags over the pairs of all rows ever recorded, removed ones too
abbrev pub labels : List Pair → ℕ → ℕ
labels = labels_after (λ t. t)

abbrev pub in_cluster : List Pair → ℕ → ℕ → Bool
in_cluster pairs x t = labels pairs t == labels pairs x

-- The rows of relations, and what a service makes of the sibling pairs among them.
use Rattle.std.specs.Prelude.{ℕ, zero, suc, Bool, false, [], ◌∷◌, ◌==◌, ◌&&◌, if◌then◌else◌, List, map, filter, flat_map, Option, Some, None}
use Rattle.std.specs.Option.{option_map}
use Rattle.media_types.specs.declared.numbers.ServiceNo.{ServiceNo}
use Rattle.sibling_chains.specs.declared.relation_row.RelationRow.{RelationRow}
use Rattle.sibling_chains.specs.Following.{Pair, ideal_by}

-- a bad tag and its good one, or a child and its parent
abbrev pub pair_of : RelationRow → Pair
pair_of row = (row.first.0, row.second.0)

-- the standing pairs of a service, in order of recording
abbrev pub pairs_of : List RelationRow → ServiceNo → List Pair
pairs_of rows s = map pair_of (filter (λ row. row.standing && row.service.0 == s.0) rows)

-- the standing pairs of some services, one service after the other
abbrev pub pairs_in : List ServiceNo → List RelationRow → List Pair
pairs_in order rows = flat_map (pairs_of rows) order

-- the ideal tag of a tag, for a service that takes siblings from these services
unfoldable pub ideal : List ServiceNo → List RelationRow → ℕ → ℕ
ideal order rows t = ideal_by (pairs_in order rows) t

-- the row is removed
abbrev pub removed : RelationRow → RelationRow
removed row = record row { standing = false }

-- the rows, once the one of this number is removed
abbrev pub removed_at : ℕ → List RelationRow → List RelationRow
removed_at n [] = []
removed_at zero (row ∷ rows) = removed row ∷ rows
removed_at (suc n) (row ∷ rows) = row ∷ removed_at n rows

-- the row stands, and is of this service and this first tag
abbrev pub stands_for : ℕ → ℕ → RelationRow → Bool
stands_for s first row = row.standing && row.service.0 == s && row.first.0 == first

-- the number of the first standing row of a service and a first tag, or the number of rows where there is none
abbrev pub standing_place : ℕ → ℕ → List RelationRow → ℕ
standing_place s first [] = 0
standing_place s first (row ∷ rows) = if stands_for s first row then 0 else suc (standing_place s first rows)

-- stands for a row that isn't there
abbrev pub no_row : RelationRow
no_row = record { service = record { 0 = 0 }; first = record { 0 = 0 }; second = record { 0 = 0 }; standing = false }

-- the number of that row, where there is one
abbrev pub standing_at : ℕ → ℕ → List RelationRow → Option ℕ
standing_at s first [] = None
standing_at s first (row ∷ rows) = if stands_for s first row then Some 0 else option_map suc (standing_at s first rows)

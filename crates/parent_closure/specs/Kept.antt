-- What contracts see of the parent pairs of all services.
use Rattle.std.specs.Prelude.{◌≡◌, ◌<◌, ◌≤◌, ℕ, suc, Bool, false, true, ◌==◌, ◌&&◌, if◌then◌else◌, List, [], ◌∷◌, map, length, All, Option, Some, None}
use Rattle.std.specs.List.{list_any}
use Rattle.media_types.specs.declared.numbers.ServiceNo.{ServiceNo}
use Rattle.tag_types.specs.declared.limits.TheConstants.{MAX_RELATIONS, MAX_TAGS}
use Rattle.sibling_chains.specs.Clusters.{rows_within}
use Rattle.sibling_chains.specs.declared.relation_row.RelationRow.{RelationRow}

-- the rows of parent pairs in order of recording, removed ones among them; by service the services whose pairs
-- it takes, in order; how many tags there are; how many more services and rows there is room for
pub record Kept : Type 0 where
  pub rows : List RelationRow
  pub orders : List (List ServiceNo)
  pub tags : ℕ
  pub service_room : ℕ
  pub row_room : ℕ

-- the same but for the room
pub record IsSame (new old : Kept) : Type 0 where
  pub rows : new.rows ≡ old.rows
  pub orders : new.orders ≡ old.orders
  pub tags : new.tags ≡ old.tags

-- the row stands for a child and its parent in a service
abbrev pub is_pair : ℕ → ℕ → ℕ → RelationRow → Bool
is_pair s child parent row = row.standing && row.service.0 == s && row.first.0 == child && row.second.0 == parent

-- the pair stands
abbrev pub stands_in : List RelationRow → ℕ → ℕ → ℕ → Bool
stands_in rows s child parent = list_any (is_pair s child parent) rows

-- the rows of a child, removed ones among them
abbrev pub rows_of : List RelationRow → ℕ → List RelationRow
rows_of rows child = rows_within (λ t. t == child) rows

-- the row, where there is one
abbrev pub rows_with : Option RelationRow → List RelationRow
rows_with None = []
rows_with (Some row) = row ∷ []

-- the number of the first row that passes a test, or the number of rows where none does
abbrev pub first_place : (RelationRow → Bool) → List RelationRow → ℕ
first_place test [] = 0
first_place test (row ∷ rows) = if test row then 0 else suc (first_place test rows)

-- the number of the first row that passes, where there is one
abbrev pub IsFirstPlace : (RelationRow → Bool) → List RelationRow → Option ℕ → Type 0
IsFirstPlace test rows None = list_any test rows ≡ false
IsFirstPlace test rows (Some n) = (list_any test rows ≡ true) × (n ≡ first_place test rows) × (n < length rows)

-- each row is kept under its child
pub record AreKept (rows : List RelationRow) (labels : List ℕ) (tags : ℕ) : Type 0 where
  pub children : labels ≡ map (λ row. row.first.0) rows
  pub known : All (λ row. (row.first.0 < tags) × (row.second.0 < tags)) rows
  pub few : length rows ≤ MAX_RELATIONS
  pub few_tags : tags ≤ MAX_TAGS

-- How distances by name and names by distance go together.
use Rattle.std.specs.Prelude.{◌≡◌, ◌<◌, ◌≤◌, ◌↔◌, ◌⊎◌, ℕ, ◌==◌, if◌then◌else◌, slice_index, slice_index_or, List, Option, Some, None, All, Contains, IfSome, count_by, true, false}
use Rattle.std.specs.List.Sorted.{IsStrictlySortedBy}
use Rattle.std.specs.Map.{keys_of, values_of}
use Rattle.media_types.specs.declared.limits.TheConstants.{MAX_DISTANCE, MAX_FILES}
use Rattle.media_types.specs.declared.numbers.FileNo.{FileNo}
use Rattle.spare_tables.specs.Keys.{value_of}
use Rattle.spare_tables.specs.Order.{pair_cmp}
use Rattle.spare_tables.specs.Pairs.{IsBefore}
use Rattle.potential_pairs.specs.Pages.{is_behind}
use Rattle.potential_pairs.specs.Potential.{Row}

-- the rows ascend by their names
abbrev pub Ascend : {V : Type 0} → List ((ℕ × ℕ) × V) → Type 0
Ascend rows = IsStrictlySortedBy pair_cmp (keys_of rows)

-- the name is of files that there may be
abbrev pub IsName : ℕ × ℕ → Type 0
IsName name = name.1 < MAX_FILES

abbrev pub IsDistance : ℕ → Type 0
IsDistance d = d ≤ MAX_DISTANCE

-- The rows ascend, each name with its distance. A triple of a distance and a name is there exactly where the
-- name has the distance, and each distance has its count of names.
pub record AreInStep (rows : List Row) (levels : List (ℕ × ℕ × ℕ)) (counts : List ℕ) : Type 0 where
  pub sorted : Ascend rows
  pub named : All IsName (keys_of rows)
  pub shallow : All IsDistance (values_of rows)
  pub level : (d j k : ℕ) → Contains levels (d, j, k) ↔ (value_of pair_cmp rows (j, k) ≡ Some d)
  pub count : (d : ℕ) → d ≤ MAX_DISTANCE → slice_index counts d ≡ count_by (λ v. v == d) (values_of rows)

-- the triple is of the name and its distance, where it has one
abbrev pub IsLevelOf : ℕ × ℕ → Option ℕ → ℕ × ℕ × ℕ → Type 0
IsLevelOf name None level = ⊥
IsLevelOf name (Some d) level = level ≡ (d, name.0, name.1)

-- 1 where this is the distance, and else 0
abbrev pub one_at : ℕ → Option ℕ → ℕ
one_at d None = 0
one_at d (Some e) = if e == d then 1 else 0

-- the first name of a distance that comes after the place, where there is any
abbrev pub IsFirstBehind : List Row → ℕ → Option (FileNo × FileNo) → Option (ℕ × ℕ) → Type 0
IsFirstBehind rows d place None = (name : ℕ × ℕ) → value_of pair_cmp rows name ≡ Some d → is_behind place name ≡ false
IsFirstBehind rows d place (Some first) =
    (value_of pair_cmp rows first ≡ Some d) × (is_behind place first ≡ true)
    × ((name : ℕ × ℕ) → value_of pair_cmp rows name ≡ Some d → is_behind place name ≡ true → ¬ (IsBefore name first))

-- the first name of a distance that comes after the place, where the distance is within the bound
abbrev pub IsHead : List Row → ℕ → Option (FileNo × FileNo) → ℕ → Option (ℕ × ℕ) → Type 0
IsHead rows m place d None = d ≤ m → IsFirstBehind rows d place None
IsHead rows m place d (Some first) = (d ≤ m) × IsFirstBehind rows d place (Some first)

-- the head of each distance
abbrev pub AreHeads : List Row → ℕ → Option (FileNo × FileNo) → List (Option (ℕ × ℕ)) → Type 0
AreHeads rows m place heads = (d : ℕ) → d ≤ MAX_DISTANCE → IsHead rows m place d (slice_index_or heads d None)

-- the lesser of two heads, where the second is the one of distance d
abbrev pub IsLesser : Option (ℕ × (ℕ × ℕ)) → ℕ → Option (ℕ × ℕ) → Option (ℕ × (ℕ × ℕ)) → Type 0
IsLesser least d None result = result ≡ least
IsLesser None d (Some name) result = result ≡ Some (d, name)
IsLesser (Some (at, first)) d (Some name) result =
    (IsBefore name first × (result ≡ Some (d, name))) ⊎ ((¬ (IsBefore name first)) × (result ≡ Some (at, first)))

-- the least name among the first n heads, with the place where it stands
abbrev pub IsLeastHead : List (Option (ℕ × ℕ)) → ℕ → Option (ℕ × (ℕ × ℕ)) → Type 0
IsLeastHead heads n None = (d : ℕ) → d < n → slice_index_or heads d None ≡ None
IsLeastHead heads n (Some (at, least)) =
    (at < n) × (slice_index_or heads at None ≡ Some least)
    × ((d : ℕ) → d < n → IfSome (slice_index_or heads d None) (λ name. ¬ (IsBefore name least)))

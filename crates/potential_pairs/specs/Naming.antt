-- How a near pair of files names a potential pair, and how many do.
use Rattle.std.specs.Prelude.{◌≡◌, ℕ, ◌==◌, ◌&&◌, nat_lt, if◌then◌else◌, List, sum_by, Option, Some, None}
use Rattle.relation_groups.specs.Relations.{Relations}
use Rattle.spare_tables.specs.Keys.{value_of}
use Rattle.spare_tables.specs.Order.{pair_cmp}
use Rattle.potential_pairs.specs.Potential.{PairsView, Row, is_live, may_pair}
use Rattle.potential_pairs.specs.Tallies.{count_at}

-- the kings of two files, the lower first
abbrev pub kings_of : Relations → ℕ → ℕ → ℕ × ℕ
kings_of R f g = if nat_lt (R.king f) (R.king g) then (R.king f, R.king g) else (R.king g, R.king f)

-- the name of the potential pair that two near files make, where their groups may be a pair
abbrev pub name_of : Relations → ℕ → ℕ → Option (ℕ × ℕ)
name_of R f g =
    let name = kings_of R f g in
    if may_pair R name.0 name.1 then Some name else None

-- the same, where both files are live
unfoldable pub live_name : Relations → List ℕ → ℕ × ℕ → Option (ℕ × ℕ)
live_name R gone files =
    if is_live gone files.0 && is_live gone files.1 then name_of R files.0 files.1 else None

-- 1 where a near pair of name `own` and distance e counts for this name at distance d, and else 0
abbrev pub weight : Option (ℕ × ℕ) → ℕ → ℕ × ℕ → ℕ → ℕ
weight None e name d = 0
weight (Some own) e name d = if (own.0 == name.0 && own.1 == name.1) && e == d then 1 else 0

-- how many near pairs have a name and a distance, where their files tell the name
abbrev pub count_named : (ℕ × ℕ → Option (ℕ × ℕ)) → List Row → ℕ × ℕ → ℕ → ℕ
count_named naming near name d = sum_by (λ row. weight (naming row.0) row.1 name d) near

-- the tallies count the near pairs by these names
unfoldable pub AreCounted : (ℕ × ℕ → Option (ℕ × ℕ)) → PairsView → Type 0
AreCounted naming v =
    (name : ℕ × ℕ) (d : ℕ) → count_at (value_of pair_cmp v.tallies name) d ≡ count_named naming v.near name d

-- The rows of triples of numbers that have two first ones.
use Rattle.std.specs.Prelude.{◌≢◌, ◌<◌, ◌^◌, ◌==◌, ◌&&◌, ℕ, Bool, true, nat_le, nat_lt, List, map, filter, Option, Some, None}
use Rattle.std.specs.List.{AllByRecursion}
use Rattle.std.specs.Map.{keys_of}
use Rattle.std.specs.declared.cmp.Ordering.TheVariants.{Greater}
use Rattle.spare_tables.specs.Order.{pair_cmp}
use Rattle.tag_types.specs.declared.map_state.MapState.{MapState}
use Rattle.tag_store.specs.Mapped.{Ascend, Row}

-- the last numbers of the rows that have these two first ones, each with the state
abbrev pub lasts : ℕ → ℕ → List Row → List (ℕ × MapState)
lasts a b rows = map (λ row. (row.0.2, row.1)) (filter (λ row. row.0.0 == a && row.0.1 == b) rows)

-- those of them from a number on
abbrev pub lasts_from : ℕ → ℕ → ℕ → List Row → List (ℕ × MapState)
lasts_from a b from rows = filter (λ it. nat_le from it.0) (lasts a b rows)

-- the number comes after the place, which is a number or the front
abbrev pub is_behind : Option ℕ → ℕ → Bool
is_behind None n = true
is_behind (Some after) n = nat_lt after n

-- the last number is one of 32 bits
abbrev pub IsShort : ℕ × ℕ × ℕ → Type 0
IsShort key = key.2 < 2 ^ 32

-- the rows ascend, and none has lesser first numbers
pub record AscendFrom (a b : ℕ) (rows : List Row) : Type 0 where
  pub sorted : Ascend rows
  pub least : AllByRecursion (λ (key : ℕ × ℕ × ℕ). pair_cmp (a, b) (key.0, key.1) ≢ Greater) (keys_of rows)

-- How many near pairs there are at each distance.
use Rattle.std.specs.Prelude.{◌≡◌, ℕ, nat_lt, slice_index, Option, Some, None, position, IsSome}
use Rattle.std.specs.Option.{option_map}
use Rattle.potential_pairs.specs.declared.tally.Tally.{Tally}

-- two kings, the lower first, and the tally of the near pairs between their groups
abbrev pub TallyRow : Type 0
TallyRow = (ℕ × ℕ) × Tally

-- the least distance of which there is any
abbrev pub least_counted : Tally → Option ℕ
least_counted tally = position (λ count. nat_lt 0 count) tally.counts

-- the tally, where it counts any
abbrev pub if_any : Tally → Option Tally
if_any tally = option_map (λ _. tally) (least_counted tally)

-- how many there are at a distance, where no tally counts none
abbrev pub count_at : Option Tally → ℕ → ℕ
count_at None d = 0
count_at (Some tally) d = slice_index tally.counts d

-- the tally counts these numbers by distance, and where there are none there is no tally
abbrev pub IsTallyOf : (ℕ → ℕ) → Option Tally → Type 0
IsTallyOf count None = (d : ℕ) → count d ≡ 0
IsTallyOf count (Some tally) = ((d : ℕ) → slice_index tally.counts d ≡ count d) × IsSome (least_counted tally)

-- What is kept, and the records that it opens.
use Rattle.std.specs.Prelude.{ℕ, ◌+◌, Bool, true, false, [], ◌∷◌, Option, Some, None, option_map, Result, Ok, Err}
use Rattle.std.specs.Option.{option_map_or}
use Rattle.media_base.specs.declared.change.Change.{Change}
use Rattle.media_base.specs.declared.refusal.Unmet.{Unmet}
use Rattle.media_base.specs.Keeping.{Readings, with_change}
use Rattle.media_base.specs.Replying.{Reply}
use Rattle.library_machine.specs.Changing.{does}
use Rattle.library_machine.specs.Effects.{effect}
use Rattle.library_machine.specs.Records.{Records, no_records}

-- what is kept, with the change of a step behind it where the reply is no refusal
abbrev pub kept_with : Option Change → Reply → Option Readings → Option Readings
kept_with None reply kept = kept
kept_with (Some change) (Ok answer) kept = option_map (with_change change) kept
kept_with (Some change) (Err why) kept = kept

abbrev pub if_made : Records → Change → Result Bool Unmet → Option Records
if_made r c (Ok true) = None
if_made r c (Ok false) = Some (effect r c)
if_made r c (Err why) = None

-- the records after a change; none where it is refused there, or would change nothing
abbrev pub after_change : Records → Change → Option Records
after_change r c = if_made r c (does r c)

-- the records after what was kept at one place; none where it has no reading or isn't lawful
abbrev pub after_reading : Records → Option Change → Option Records
after_reading r None = None
after_reading r (Some change) = after_change r change

-- The records that the kept changes lead to, one after the other, from these records on; or the number of
-- the first that has no reading or isn't lawful. The first place has the number n.
abbrev pub opened_from : ℕ → Records → Readings → Result Records ℕ
opened_from n r [] = Ok r
opened_from n r (reading ∷ readings) =
    option_map_or (λ after. opened_from (n + 1) after readings) (after_reading r reading) (Err n)

-- the same from the beginning
abbrev pub opened : Readings → Result Records ℕ
opened = opened_from 0 no_records

-- What becomes of what a text is put into.
use Rattle.std.specs.Prelude.{◌≡◌, ℕ, ◌+◌, ◌-◌, ◌^◌, ◌≤◌, min, List, length, Option, Result, Ok}
use Rattle.media_types.specs.Cause.{HasCause, failed}
use Rattle.media_types.specs.declared.fault.Failed.{Failed}
use Rattle.media_base.specs.Transfer.{Gathers}

abbrev pub Outcome : Type 0
Outcome = Result (Unit {0}) Failed

-- The text was gathered behind what was held; or the sink failed, for a cause, and took a front of both.
pub record GathersBehind (faults_before faults_now : ℕ) (old : Option (List ℕ)) (held : List ℕ) (new : Option (List ℕ)) (now text : List ℕ) (result : Outcome) : Type 0 where
  pub cause : HasCause faults_before faults_now failed result
  pub gathers : Gathers old held new now text result

-- The bytes of the text are counted, up to the greatest count. That never fails.
pub record Counts (old new : ℕ) (text : List ℕ) (result : Outcome) : Type 0 where
  pub counted : old ≤ 2 ^ 64 - 1 → new ≡ min (old + length text) (2 ^ 64 - 1)
  pub succeeds : result ≡ Ok tt

-- What the replies of a run say of the keeper's room.
use Rattle.std.proofs.Common.{◌≡◌, ℕ, ◌+◌, List, [], ◌∷◌, ◌++◌, length, Option, Some, None, Ok, Err, refl, sym, ap, ◌∙◌, subst, inl, arith}
use Rattle.std.specs.Prelude.{IsSome}
use Rattle.media_base.specs.declared.change.Change.{Change}
use Rattle.media_base.specs.declared.command.Caller.TheVariants as callers
use Rattle.media_base.specs.declared.command.Command.{Command}
use Rattle.media_base.specs.declared.refusal.Refusal.{Refusal}
use Rattle.media_base.specs.declared.refusal.Refusal.TheVariants as refusals
use Rattle.media_base.specs.Replying.{Reply}
use Rattle.library_machine.specs.Step.{State, Outcome, refused, told, changed, Answered, by_step, no_memory, journal_full, not_kept, change_of, reply_of, step}
use Rattle.library_core.specs.Done.{Telling, HasNoRoom, IsDone}
use Rattle.media_tool.specs.Room.{NeverRefused, TellsRoom, ToldWithin, change_for, line_change, units_taken}
use Rattle.media_tool.specs.Run.{LineAnswered, as_command, as_refused, as_no_memory, Run, SessionState}
use Rattle.media_tool.proofs.Runs.{NeverReadAs}

-- there is some change, where this says so
some_change : (asked : Option Change) → IsSome asked → (change : Change) × (asked ≡ Some change)
some_change (Some change) is = (change, refl)
some_change None is = absurd cc

-- the step itself never lacks room
not_by_step : (o : Outcome) → reply_of o ≡ Err refusals.JournalFull → ⊥
not_by_step (refused why) is = cc
not_by_step (told desks answer) is = cc
not_by_step (changed change desks answer) is = cc

full_wants_change : (s new : State) (o : Outcome) (reply : Reply) → Answered s o reply new → reply ≡ Err refusals.JournalFull → (change : Change) × (change_of o ≡ Some change)
full_wants_change s new o reply (by_step replied left) is = absurd (not_by_step o (replied ∙ is))
full_wants_change s new o reply (no_memory want same) is = absurd cc
full_wants_change s new o reply (journal_full some full same) is = some_change (change_of o) some
full_wants_change s new o reply (not_kept some kept same) is = absurd cc

-- a refusal takes none
none_taken : (units : Change → ℕ) (asked : Option Change) (why : Refusal) → units_taken units asked (Err why) ≡ 0
none_taken units (Some change) why = refl
none_taken units None why = refl

module _ {K : Type 0} (tells : Telling K) where
  used_by : (s new : State) (old after : K) (o : Outcome) (asked : Option Change) (reply : Reply) → change_of o ≡ asked → IsDone tells s old o reply new after
      → tells.used after ≡ tells.used old + units_taken (tells.units old) asked reply
  used_by s new old after o (Some change) (Ok answer) is done = done.used change answer is refl
  used_by s new old after o (Some change) (Err why) is done = let e = done.same_used why refl in omega (arith, e)
  used_by s new old after o None reply is done = let e = done.told_used is in omega (arith, e)

  command_tells : (s t : SessionState K) (command : Command) (reply : Reply) (line : List ℕ) (asked : Option Change) → line_change s.machine line ≡ asked → change_of (step s.machine callers.Console command) ≡ asked
      → IsDone tells s.machine s.keeper (step s.machine callers.Console command) reply t.machine t.keeper → TellsRoom tells s line reply t
  command_tells s t command reply line asked here is done = record {
    full = λ said.
        let wanted = full_wants_change s.machine t.machine (step s.machine callers.Console command) reply done.answered said in
        (wanted.0, here ∙ sym is ∙ wanted.1, done.full said wanted.0 wanted.1);
    no_room = λ change its none. done.no_room change (is ∙ sym here ∙ its) none;
    used = subst (λ (change : Option Change). tells.used t.keeper ≡ tells.used s.keeper + units_taken (tells.units s.keeper) change reply) (sym here)
        (used_by s.machine t.machine s.keeper t.keeper (step s.machine callers.Console command) asked reply is done);
    same_limit = done.same_limit;
    same_units = done.same_units;
  }

  -- a line that is refused for another reason, and changes nothing
  refusal_tells : (s t : SessionState K) (line : List ℕ) (why : Refusal) (reply : Reply) → reply ≡ Err why → t ≡ s → (why ≡ refusals.JournalFull → ⊥)
      → ((change : Change) → line_change s.machine line ≡ Some change → reply ≡ Err refusals.NoMemory) → TellsRoom tells s line reply t
  refusal_tells s t line why reply is same other want =
      subst (λ (x : SessionState K). TellsRoom tells s line reply x) (sym same) record {
        full = λ said. absurd (other cc);
        no_room = λ change its none. inl (want change its);
        used = let zero : units_taken (tells.units s.keeper) (line_change s.machine line) reply ≡ 0 = ap (λ (one : Reply). units_taken (tells.units s.keeper) (line_change s.machine line) one) is ∙ none_taken (tells.units s.keeper) (line_change s.machine line) why in omega (arith, zero);
        same_limit = refl;
        same_units = refl;
      }

  pub line_tells : NeverReadAs refusals.JournalFull → (s t : SessionState K) (line : List ℕ) (reply : Reply) → LineAnswered tells s line reply t → TellsRoom tells s line reply t
  line_tells never s t line reply (as_command command spelled answered) =
      command_tells s t command reply line (change_of (step s.machine callers.Console command)) (ap (change_for s.machine) spelled) refl answered.done
  line_tells never s t line reply (as_refused why read is same) =
      refusal_tells s t line why reply is same
      (λ full. never line (read ∙ ap Err full))
      (λ change its. let none : line_change s.machine line ≡ None = ap (change_for s.machine) read in absurd cc)
  line_tells never s t line reply (as_no_memory is same) =
      refusal_tells s t line refusals.NoMemory reply is same (λ full. cc) (λ change its. is)

  pub told_within : NeverReadAs refusals.JournalFull → (opening after : SessionState K) (earlier later : List (List ℕ)) (line : List ℕ) (given more : List Reply) (reply : Reply) → length earlier ≡ length given
      → Run tells opening (earlier ++ line ∷ later) (given ++ reply ∷ more) after → ToldWithin tells opening earlier given line reply later more after
  told_within never opening after [] later line [] more reply same p =
      record { before = opening; next = p.0; first = refl; answered = p.1; room = line_tells never opening p.0 line reply p.1; rest = p.2 }
  told_within never opening after (one ∷ earlier) later line (its ∷ given) more reply same p =
      let others = told_within never p.0 after earlier later line given more reply (omega (arith, same)) p.2 in
      record { before = others.before; next = others.next; first = (p.0, p.1, others.first); answered = others.answered; room = others.room; rest = others.rest }
  told_within never opening after [] later line (its ∷ given) more reply same p = absurd (omega (arith, same))
  told_within never opening after (one ∷ earlier) later line [] more reply same p = absurd (omega (arith, same))

  -- where there is always room, no reply says that there is none
  pub run_has_room : NeverReadAs refusals.JournalFull → ((keeper : K) (change : Change) → HasNoRoom tells keeper change → ⊥) → (s t : SessionState K) (lines : List (List ℕ)) (given : List Reply) → Run tells s lines given t
      → NeverRefused refusals.JournalFull given
  run_has_room never always s t [] [] p = tt
  run_has_room never always s t (line ∷ lines) (reply ∷ given) p = (
    λ is. let full = (line_tells never s p.0 line reply p.1).full is in always s.keeper full.0 full.2,
    run_has_room never always p.0 t lines given p.2,
  )
  run_has_room never always s t [] (reply ∷ given) p = absurd p
  run_has_room never always s t (line ∷ lines) [] p = absurd p

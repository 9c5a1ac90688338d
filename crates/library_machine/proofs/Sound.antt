-- A step tells a change exactly where the records change, the change leads to the same records, and they fit: by the
-- kinds of commands and of outcomes, once for all commands.
use Rattle.std.proofs.Common.{◌≡◌, ◌≢◌, ◌↔◌, Bool, true, false, Some, None, Result, Ok, Err, refl, ap, sym, subst}
use Rattle.std.proofs.lemmas.Option.{same_Some}
use Rattle.media_base.specs.declared.change.Change.{Change}
use Rattle.media_base.specs.declared.command.Caller.{Caller}
use Rattle.media_base.specs.declared.command.Command.{Command}
use Rattle.media_base.specs.declared.command.Command.TheVariants as commands
use Rattle.media_base.specs.declared.refusal.Refusal.{Refusal}
use Rattle.media_base.specs.declared.refusal.Refusal.TheVariants as refusals
use Rattle.media_base.specs.declared.refusal.Unmet.{Unmet}
use Rattle.media_base.specs.declared.reply.Answer.{Answer}
use Rattle.library_machine.specs.Asking.{asked}
use Rattle.library_machine.specs.Changing.{does}
use Rattle.library_machine.specs.Effects.{effect}
use Rattle.library_machine.specs.Desks.{Desks}
use Rattle.library_machine.specs.Jobs.{Deed, tells, makes, worked_out}
use Rattle.library_machine.specs.Laws.{AnswersKeepFit, StepsKeepFit, WantsChange}
use Rattle.library_machine.specs.Opening.{after_change, if_made}
use Rattle.library_machine.specs.Records.{Fits}
use Rattle.library_machine.specs.Step.{State, Outcome, refused, told, changed, after, reply_of, change_of, by_change, by_answer, by_deed, step_of, admitted, by_caller, step, Answered, by_step, no_memory, journal_full, not_kept}
use Rattle.library_machine.specs.GoodLaws.{changes_differ, changes_keep_fit}

pub record IsSound (s : State) (o : Outcome) : Type 0 where
  pub told : (change_of o ≡ None) ↔ ((after s o).kept ≡ s.kept)
  pub leads : (c : Change) → change_of o ≡ Some c → after_change s.kept c ≡ Some (after s o).kept
  pub fits : Fits s.kept → Fits (after s o).kept

same_records : (s : State) (o : Outcome) → change_of o ≡ None → (after s o).kept ≡ s.kept → IsSound s o
same_records s o none same = record {
  told = (λ e. same, λ e. none);
  leads = λ c e. absurd (cc (none, e));
  fits = λ fits. subst Fits (sym same) fits;
}

sound_answer : (s : State) (desks : Desks) (result : Result Answer Unmet) → IsSound s (by_answer desks result)
sound_answer s desks (Ok answer) = same_records s _ refl refl
sound_answer s desks (Err why) = same_records s _ refl refl

module _ (s : State) (desks : Desks) where
  sound_made : (c : Change) (done : Result Bool Unmet) → does s.kept c ≡ done → IsSound s (by_change s.kept desks c done)
  sound_made c (Err why) is = same_records s _ refl refl
  sound_made c (Ok true) is = same_records s _ refl refl
  sound_made c (Ok false) is = record {
    told = (λ e. absurd (cc e), λ same. absurd (changes_differ s.kept c is same));
    leads = λ one e. subst (λ (d : Change). after_change s.kept d ≡ Some (effect s.kept c)) (same_Some _ _ e) (ap (if_made s.kept c) is);
    fits = changes_keep_fit s.kept c is;
  }

  sound_deed : (deed : Deed) → IsSound s (by_deed s.kept desks deed)
  sound_deed (tells answer) = same_records s _ refl refl
  sound_deed (makes c) = sound_made c _ refl

module _ (s : State) where
  sound_step : (command : Command) → IsSound s (step_of s command)
  sound_step (commands.Ask q) = sound_answer s s.desks (asked s.kept q)
  sound_step (commands.Do c) = sound_made s s.desks c _ refl
  sound_step (commands.Run j) = sound_deed s s.desks (worked_out s.kept j)
  sound_step (commands.Tend u) = same_records s _ refl refl

  sound_caller : (command : Command) (may : Result (Unit {0}) Unmet) → IsSound s (by_caller s command may)
  sound_caller command (Ok may) = sound_step command
  sound_caller command (Err why) = same_records s _ refl refl

  pub sound : (caller : Caller) (command : Command) → IsSound s (step s caller command)
  unfolding step
  sound caller command = sound_caller command (admitted s.kept caller command)

abbrev FitsIn : State → Type 0
FitsIn s = Fits s.kept

pub steps_keep_fit : StepsKeepFit
steps_keep_fit s caller command = (sound s caller command).fits

pub answers_keep_fit : AnswersKeepFit
answers_keep_fit s caller command reply new (by_step same is) fits = subst FitsIn is (steps_keep_fit s caller command fits)
answers_keep_fit s caller command reply new (no_memory want same) fits = subst FitsIn (sym same) fits
answers_keep_fit s caller command reply new (journal_full some want same) fits = subst FitsIn (sym same) fits
answers_keep_fit s caller command reply new (not_kept some want same) fits = subst FitsIn (sym same) fits

-- ---- refusals

-- a refusal that no need has
abbrev IsOfKeeping : Refusal → Type 0
IsOfKeeping why = (one : Unmet) → refusals.Unmet one ≢ why

never_by_step : (o : Outcome) (why : Refusal) → IsOfKeeping why → reply_of o ≢ Err why
never_by_step (refused one) why other e = other one (cc e)
never_by_step (told desks answer) why other e = cc e
never_by_step (changed c desks answer) why other e = cc e

wanted : (why : Refusal) → IsOfKeeping why → why ≢ refusals.NoMemory → (s : State) (o : Outcome) (new : State) →
    Answered s o (Err why) new → change_of o ≢ None
wanted why other rare s o new (by_step same is) none = never_by_step o why other same
wanted why other rare s o new (no_memory want same) none = rare (cc want)
wanted why other rare s o new (journal_full some want same) none = cc (some, none)
wanted why other rare s o new (not_kept some want same) none = cc (some, none)

pub wants_room : WantsChange refusals.JournalFull
wants_room = record {
  changes = λ s caller command new.
      wanted refusals.JournalFull (λ one e. cc e) (λ e. cc e) s (step s caller command) new;
}

pub wants_keeping : WantsChange refusals.NotKept
wants_keeping = record {
  changes = λ s caller command new.
      wanted refusals.NotKept (λ one e. cc e) (λ e. cc e) s (step s caller command) new;
}

-- A refused command changes nothing, and neither does whatever refusal is answered.
use Rattle.std.proofs.Common.{◌≡◌, Err, refl, sym, ◌∙◌}
use Rattle.media_base.specs.declared.refusal.Refusal.{Refusal}
use Rattle.library_machine.specs.Laws.{RefusalsChangeNothing, RefusedAnswersChangeNothing}
use Rattle.library_machine.specs.Step.{State, Outcome, refused, told, changed, after, reply_of, step, by_step, no_memory, journal_full, not_kept}

after_refused : (s : State) (o : Outcome) (why : Refusal) → reply_of o ≡ Err why → after s o ≡ s
after_refused s (refused one) why e = refl
after_refused s (told desks answer) why e = absurd (cc e)
after_refused s (changed c desks answer) why e = absurd (cc e)

pub refusals_change_nothing : RefusalsChangeNothing
refusals_change_nothing s caller command why e = after_refused s (step s caller command) why e

pub refused_answers_change_nothing : RefusedAnswersChangeNothing
refused_answers_change_nothing s caller command why new (by_step same is) = sym is ∙ after_refused s (step s caller command) why same
refused_answers_change_nothing s caller command why new (no_memory want same) = same
refused_answers_change_nothing s caller command why new (journal_full some want same) = same
refused_answers_change_nothing s caller command why new (not_kept some want same) = same

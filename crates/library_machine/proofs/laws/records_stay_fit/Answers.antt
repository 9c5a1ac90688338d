use Rattle.library_machine.specs.GoodLaws.{changes_keep_fit, first_fit}
use Rattle.library_machine.proofs.Sound.{answers_keep_fit, steps_keep_fit}
use Rattle.library_machine.proofs.laws.records_stay_fit.Goals as goal

pub returns-clause-at_first : goal.returns-clause-at_first
returns-clause-at_first c = first_fit

pub returns-clause-after_a_step : goal.returns-clause-after_a_step
returns-clause-after_a_step c = steps_keep_fit

pub returns-clause-after_an_answer : goal.returns-clause-after_an_answer
returns-clause-after_an_answer c = answers_keep_fit

pub returns-clause-after_a_change : goal.returns-clause-after_a_change
returns-clause-after_a_change c = changes_keep_fit

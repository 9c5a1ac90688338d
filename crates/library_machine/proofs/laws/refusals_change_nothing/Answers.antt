use Rattle.library_machine.specs.StepLaws.{refused_answers_change_nothing, refusals_change_nothing}
use Rattle.library_machine.proofs.laws.refusals_change_nothing.Goals as goal

pub returns-clause-in_a_step : goal.returns-clause-in_a_step
returns-clause-in_a_step c = refusals_change_nothing

pub returns-clause-in_an_answer : goal.returns-clause-in_an_answer
returns-clause-in_an_answer c = refused_answers_change_nothing

use Rattle.std.proofs.Common.{subst}
use Rattle.media_base.specs.Replying.{Reply}
use Rattle.library_machine.specs.Step.{Answered, step}
use Rattle.library_machine.specs.StepLaws.{refused_answers_change_nothing}
use Rattle.library_core.proofs.Finishing.{admits}
use Rattle.library_core.proofs.library.Library.answer.Goals as goal

pub returns-clause-done : goal.returns-clause-done
returns-clause-done g c = rw (← admits c.args.self.now.state c.args.caller c.args.command.now) c.answer_of-reply.ensures.done

pub returns-clause-tree : goal.returns-clause-tree
returns-clause-tree g c = rw (← admits c.args.self.now.state c.args.caller c.args.command.now) c.answer_of-reply.ensures.tree

pub returns-clause-refused : goal.returns-clause-refused
returns-clause-refused g c = λ why is.
    let old = c.args.self.now.state in
    let new = c.answer_of-reply.new.self.state in
    let o = step old c.args.caller c.args.command.now in
    refused_answers_change_nothing old c.args.caller c.args.command.now why new (subst (λ (reply : Reply). Answered old o reply new) is (returns-clause-done g c).answered)

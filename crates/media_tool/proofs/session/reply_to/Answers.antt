use Rattle.std.proofs.lemmas.Result.{err_from_is_err_and}
use Rattle.media_tool.specs.Run.{as_command, state_of, telling}
use Rattle.media_tool.proofs.Runs.{answered_refusal}
use Rattle.media_tool.proofs.session.reply_to.Goals as goal

pub returns-in_err-command : goal.returns-in_err-command
returns-in_err-command g c =
    let keepers = g.K.Keeper in
    let p = err_from_is_err_and c.from_residual.result c.from_residual.ensures.1 in
    rw (p.1, p.2) (answered_refusal (telling keepers.kept keepers.alien keepers.faults keepers.used keepers.units keepers.limit) (state_of c.args.library.now) c.args.line.now _ c.in_err-command.ensures)

pub returns : goal.returns
returns g c = as_command c.in_ok-command.command c.in_ok-command.ensures (record { done = c.answer.ensures.done; tree = c.answer.ensures.tree })

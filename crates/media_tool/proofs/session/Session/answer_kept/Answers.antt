use Rattle.std.proofs.Common.{List, ℕ, ◌∙◌}
use Rattle.media_base.specs.Transfer.{Gathered}
use Rattle.media_tool.specs.Feeding.{TookBehind}
use Rattle.media_tool.specs.Run.{state_of}
use Rattle.media_tool.proofs.Feeds.{done, sent_failed}
use Rattle.media_tool.proofs.Kept.{kept_sent}
use Rattle.media_tool.proofs.session.Session.answer_kept.Goals as goal

pub returns-clause-sent : goal.returns-clause-sent
returns-clause-sent g c = λ line front.
    let t = g.W.Sink.taken c.args.sink.now in
    let u = g.W.Sink.taken c.answer_line.new.sink in
    let held = c.args.gather.now in
    kept_sent c.long_line_laws.ensures.too_long (state_of c.args.self.now.library) (state_of c.answer_line.new.library) c.as_slice.result.now line
    (Gathered t held u c.answer_line.new.gather) (TookBehind t held u) (done tt) c.in_ok-answer_line.ensures.sent (c.as_slice.ensures ∙ front)

pub returns-in_err-answer_line-clause-sent : goal.returns-in_err-answer_line-clause-sent
returns-in_err-answer_line-clause-sent g c = λ line front.
    let t = g.W.Sink.taken c.args.sink.now in
    let u = g.W.Sink.taken c.answer_line.new.sink in
    let held = c.args.gather.now in
    let gathered = Gathered t held u c.answer_line.new.gather in
    let behind = TookBehind t held u in
    kept_sent c.long_line_laws.ensures.too_long (state_of c.args.self.now.library) (state_of c.answer_line.new.library) c.as_slice.result.now line gathered behind c.from_residual.result
    (sent_failed _ _ _ gathered behind gathered behind _ _ c.from_residual.ensures.0 (λ text sent. sent) c.in_err-answer_line.ensures.sent) (c.as_slice.ensures ∙ front)

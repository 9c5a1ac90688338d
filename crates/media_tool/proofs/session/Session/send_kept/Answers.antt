use Rattle.std.proofs.Common.{List, ℕ}
use Rattle.media_base.specs.Transfer.{Took, TookFront}
use Rattle.media_tool.specs.Run.{state_of}
use Rattle.media_tool.proofs.Feeds.{front_from_none, sent_failed, sent_written}
use Rattle.media_tool.proofs.session.Session.send_kept.Goals as goal

pub returns-in_err-answer_kept-clause-sent : goal.returns-in_err-answer_kept-clause-sent
returns-in_err-answer_kept-clause-sent g c = λ line front.
    let t = g.W.Sink.taken c.args.sink.now in
    let u = g.W.Sink.taken c.answer_kept.new.sink in
    sent_failed (state_of c.args.self.now.library) (state_of c.answer_kept.new.self.library) line _ _ (Took t u) (TookFront t u) _ c.from_residual.result c.from_residual.ensures.0
    (front_from_none t u _ c.new-gather.ensures) (c.in_err-answer_kept.ensures.sent line front)

pub returns-clause-sent : goal.returns-clause-sent
returns-clause-sent g c = λ line front.
    let taken = g.W.Sink.taken in
    sent_written (state_of c.args.self.now.library) (state_of c.answer_kept.new.self.library) line (taken c.args.sink.now) (taken c.answer_kept.new.sink) (taken c.flush.new.sink) _ c.answer_kept.new.gather c.flush.result
    c.new-gather.ensures (c.in_ok-answer_kept.ensures.sent line front) c.flush.ensures.sends

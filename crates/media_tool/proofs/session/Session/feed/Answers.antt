use Rattle.media_tool.specs.Run.{state_of}
use Rattle.media_tool.proofs.Feeds.{on_err}
use Rattle.media_tool.proofs.Kept.{feed_written, stopped_from_none}
use Rattle.media_tool.proofs.session.Session.feed.Goals as goal

pub returns-in_err-answer_lines-clause-stopped : goal.returns-in_err-answer_lines-clause-stopped
returns-in_err-answer_lines-clause-stopped g c = on_err c.from_residual.result (λ line keeps.
    stopped_from_none (state_of c.args.self.now.library) (state_of c.answer_lines.new.self.library) line c.args.piece.now (g.W.Sink.taken c.args.sink.now) (g.W.Sink.taken c.answer_lines.new.sink) _ c.new-gather.ensures
    (c.in_err-answer_lines.ensures.stopped line keeps))

pub returns-clause-fed : goal.returns-clause-fed
returns-clause-fed g c =
    let taken = g.W.Sink.taken in
    (feed_written (state_of c.args.self.now.library) (state_of c.answer_lines.new.self.library) c.args.self.now.line c.args.piece.now c.answer_lines.new.self.line
    (taken c.args.sink.now) (taken c.answer_lines.new.sink) (taken c.flush.new.sink) _ c.answer_lines.new.gather c.flush.result c.new-gather.ensures c.in_ok-answer_lines.ensures.fed c.flush.ensures.sends).0

pub returns-clause-stopped : goal.returns-clause-stopped
returns-clause-stopped g c =
    let taken = g.W.Sink.taken in
    (feed_written (state_of c.args.self.now.library) (state_of c.answer_lines.new.self.library) c.args.self.now.line c.args.piece.now c.answer_lines.new.self.line
    (taken c.args.sink.now) (taken c.answer_lines.new.sink) (taken c.flush.new.sink) _ c.answer_lines.new.gather c.flush.result c.new-gather.ensures c.in_ok-answer_lines.ensures.fed c.flush.ensures.sends).1

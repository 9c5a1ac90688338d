use Rattle.std.proofs.Common.{◌≡◌, ◌≢◌, List, ℕ, ◌++◌, refl, sym, ap}
use Rattle.media_base.specs.Transfer.{Gathered}
use Rattle.media_tool.specs.Feeding.{TookBehind}
use Rattle.media_tool.specs.Run.{state_of}
use Rattle.media_tool.proofs.Cuts.{AllByRecursion-append}
use Rattle.media_tool.proofs.Feeds.{behind_extends, on_err, sent_fed, sent_stopped}
use Rattle.media_tool.proofs.Kept.{nil_of_keeps, keeps_more}
use Rattle.media_tool.proofs.session.Session.end_line.Goals as goal

pub returns-in_ok-answer_line-clause-fed : goal.returns-in_ok-answer_line-clause-fed
returns-in_ok-answer_line-clause-fed g c = λ line keeps.
    let t = g.W.Sink.taken c.args.sink.now in
    let u = g.W.Sink.taken c.answer_line.new.sink in
    let held = c.args.gather.now in
    let old = c.args.self.now in
    let front = c.args.front.now in
    let nil = nil_of_keeps old.line line (c.is_empty.ensures.0 c.if-is_empty.true) keeps.front in
    let whole : front ≡ line ++ front = ap (λ (bytes : List ℕ). bytes ++ front) (sym nil) in
    sent_fed (state_of old.library) (state_of c.answer_line.new.library) line front front (Gathered t held u c.answer_line.new.gather) (TookBehind t held u) whole (AllByRecursion-append (λ byte. byte ≢ 10) line front keeps.unfinished c.requires) c.in_ok-answer_line.ensures.sent

pub returns-in_err-answer_line-clause-stopped : goal.returns-in_err-answer_line-clause-stopped
returns-in_err-answer_line-clause-stopped g c = on_err c.from_residual.result (λ line more keeps.
    let t = g.W.Sink.taken c.args.sink.now in
    let u = g.W.Sink.taken c.answer_line.new.sink in
    let held = c.args.gather.now in
    let old = c.args.self.now in
    let front = c.args.front.now in
    let nil = nil_of_keeps old.line line (c.is_empty.ensures.0 c.if-is_empty.true) keeps.front in
    let whole : front ≡ line ++ front = ap (λ (bytes : List ℕ). bytes ++ front) (sym nil) in
    sent_stopped (state_of old.library) (state_of c.answer_line.new.library) line front front more (Gathered t held u c.answer_line.new.gather) (TookBehind t held u) (behind_extends t held u) whole (AllByRecursion-append (λ byte. byte ≢ 10) line front keeps.unfinished c.requires) c.in_err-answer_line.ensures.sent)

pub returns-in_ok-answer_kept-clause-fed : goal.returns-in_ok-answer_kept-clause-fed
returns-in_ok-answer_kept-clause-fed g c = λ line keeps.
    let t = g.W.Sink.taken c.args.sink.now in
    let u = g.W.Sink.taken c.answer_kept.new.sink in
    let held = c.args.gather.now in
    let old = c.args.self.now in
    let front = c.args.front.now in
    let whole = keeps_more old.line c.keep.new.self line front keeps c.requires c.keep.ensures in
    sent_fed (state_of old.library) (state_of c.answer_kept.new.self.library) line front (line ++ front) (Gathered t held u c.answer_kept.new.gather) (TookBehind t held u) refl whole.unfinished (c.in_ok-answer_kept.ensures.sent (line ++ front) whole.front)

pub returns-in_err-answer_kept-clause-stopped : goal.returns-in_err-answer_kept-clause-stopped
returns-in_err-answer_kept-clause-stopped g c = on_err c.from_residual-in_err-answer_kept.result (λ line more keeps.
    let t = g.W.Sink.taken c.args.sink.now in
    let u = g.W.Sink.taken c.answer_kept.new.sink in
    let held = c.args.gather.now in
    let old = c.args.self.now in
    let front = c.args.front.now in
    let whole = keeps_more old.line c.keep.new.self line front keeps c.requires c.keep.ensures in
    sent_stopped (state_of old.library) (state_of c.answer_kept.new.self.library) line front (line ++ front) more (Gathered t held u c.answer_kept.new.gather) (TookBehind t held u) (behind_extends t held u) refl whole.unfinished (c.in_err-answer_kept.ensures.sent (line ++ front) whole.front))

use Rattle.std.proofs.Common.{◌≡◌, List, ℕ, [], subst}
use Rattle.media_base.specs.Transfer.{Took}
use Rattle.media_tool.specs.Feeding.{Fed}
use Rattle.media_tool.specs.Run.{state_of, telling}
use Rattle.media_tool.proofs.Feeds.{ends_fed, ends_sent, ends_cut_off}
use Rattle.media_tool.proofs.Kept.{nil_of_keeps, keeps_of_nil}
use Rattle.media_tool.proofs.session.Session.finish.Goals as goal

pub returns-then-is_empty-clause-ends : goal.returns-then-is_empty-clause-ends
returns-then-is_empty-clause-ends g c = λ opening given taken p.
    let old = c.args.self.now in
    let now = g.W.Sink.taken c.args.sink.now in
    let nil = nil_of_keeps old.line p.rest (c.is_empty.ensures.0 c.if-is_empty.true) p.keeps.front in
    ends_fed opening given (state_of old.library) taken now (subst (λ (line : List ℕ). Fed (telling g.K.Keeper.kept g.K.Keeper.alien g.K.Keeper.faults g.K.Keeper.used g.K.Keeper.units g.K.Keeper.limit) opening [] given (state_of old.library) line (Took taken now)) nil p.fed)

pub returns-in-Ok-clause-ends : goal.returns-in-Ok-clause-ends
returns-in-Ok-clause-ends g c = λ opening given taken p.
    let old = c.args.self.now in
    let some : p.rest ≡ [] → ⊥ = λ nil. absurd (cc (c.if-is_empty.false, c.is_empty.ensures.1 (keeps_of_nil old.line p.rest p.keeps.front nil))) in
    ends_sent opening given (state_of old.library) (state_of c.send_kept.new.self.library) p.rest taken (g.W.Sink.taken c.args.sink.now) (g.W.Sink.taken c.send_kept.new.sink) some p.fed (c.in-Ok.ensures.sent p.rest p.keeps.front)

pub returns-in-Err-clause-ends : goal.returns-in-Err-clause-ends
returns-in-Err-clause-ends g c = λ opening given taken p.
    let old = c.args.self.now in
    let some : p.rest ≡ [] → ⊥ = λ nil. absurd (cc (c.if-is_empty.false, c.is_empty.ensures.1 (keeps_of_nil old.line p.rest p.keeps.front nil))) in
    ends_cut_off opening given (state_of old.library) (state_of c.send_kept.new.self.library) p.rest taken (g.W.Sink.taken c.args.sink.now) (g.W.Sink.taken c.send_kept.new.sink) some p.fed (c.in-Err.ensures.sent p.rest p.keeps.front)

use Rattle.std.proofs.Common.{◌≡◌, ◌<◌, ◌≤◌, ℕ, subst, arith}
use Rattle.media_tool.specs.Run.{state_of, telling}
use Rattle.media_tool.proofs.Plays.{PlayedSoFar, so_far_start, so_far_piece, plays_write_fault, plays_too_long}
use Rattle.media_tool.proofs.play.play_pieces.Goals as goal

pub loop-room-init : goal.loop-room-init
loop-room-init g c = record {
  later_read = omega arith;
  later_write = omega arith;
  so_far = so_far_start (state_of c.args.session.now.library) c.args.session.now.line (g.S.Source.left c.args.source.now) (g.W.Sink.taken c.args.sink.now) c.requires.line;
}

pub returns-in-Err-feed-clause-plays : goal.returns-in-Err-feed-clause-plays
returns-in-Err-feed-clause-plays g c =
    let opening = state_of c.args.session.now.library in
    let left = g.S.Source.left in
    let taken = g.W.Sink.taken in
    let count = c.in-Ok.count in
    let within : count ≤ c.loop-room.room = omega (arith, c.in-Ok.ensures.most, c.min.ensures) in
    plays_write_fault opening c.loop-room.room count (state_of c.loop-room.session.library) (state_of c.feed.new.self.library) c.loop-room.session.line c.read_front.new.chunk (left c.args.source.now) (left c.loop-room.source) (left c.read_front.new.source) (taken c.args.sink.now) (taken c.loop-room.sink) (taken c.feed.new.sink) within c.loop-room.invariant.so_far c.in-Ok.ensures.reads c.in-Err-feed.ensures.stopped

pub loop-room-preserved : goal.loop-room-preserved
loop-room-preserved g c =
    let opening = state_of c.args.session.now.library in
    let left = g.S.Source.left in
    let taken = g.W.Sink.taken in
    let count = c.in-Ok.count in
    let within : count ≤ c.loop-room.room = omega (arith, c.in-Ok.ensures.most, c.min.ensures) in
    record {
      later_read = omega (arith, c.loop-room.invariant.later_read, c.read_front.ensures.cause.later);
      later_write = omega (arith, c.loop-room.invariant.later_write, c.feed.ensures.cause.later);
      so_far = so_far_piece opening c.loop-room.room count (state_of c.loop-room.session.library) (state_of c.feed.new.self.library) c.loop-room.session.line c.feed.new.self.line c.read_front.new.chunk (left c.args.source.now) (left c.loop-room.source) (left c.read_front.new.source) (taken c.args.sink.now) (taken c.loop-room.sink) (taken c.feed.new.sink) within c.loop-room.invariant.so_far c.in-Ok.ensures.reads c.in-Ok-feed.ensures.fed;
    }

pub returns-in-Ok-read_front-clause-plays : goal.returns-in-Ok-read_front-clause-plays
returns-in-Ok-read_front-clause-plays g c =
    let opening = state_of c.args.session.now.library in
    let left = g.S.Source.left in
    let taken = g.W.Sink.taken in
    let none : c.loop-room.room ≡ 0 = omega (arith, c.loop-room-test.false) in
    let some : 0 < c.in-Ok-read_front.field-0 = omega (arith, c.in-Ok-read_front.field-0-test) in
    plays_too_long opening c.in-Ok-read_front.field-0 (state_of c.loop-room.session.library) c.loop-room.session.line c.read_front-2.new.chunk (left c.args.source.now) (left c.loop-room.source) (left c.read_front-2.new.source) (taken c.args.sink.now) (taken c.loop-room.sink) some
    (subst (λ (room : ℕ). PlayedSoFar (telling g.K.Keeper.kept g.K.Keeper.alien g.K.Keeper.faults g.K.Keeper.used g.K.Keeper.units g.K.Keeper.limit) opening room (state_of c.loop-room.session.library) c.loop-room.session.line (left c.args.source.now) (left c.loop-room.source) (taken c.args.sink.now) (taken c.loop-room.sink)) none c.loop-room.invariant.so_far) c.in-Ok-read_front.ensures.reads

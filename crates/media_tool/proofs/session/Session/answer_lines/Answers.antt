use Rattle.std.proofs.Common.{List, ℕ, refl, sym, subst, arith}
use Rattle.media_base.specs.Transfer.{Gathered}
use Rattle.media_base.specs.TransferLaws.{gathered_none}
use Rattle.media_tool.specs.Feeding.{Stopped, TookBehind}
use Rattle.media_tool.specs.Lines.{with_feed}
use Rattle.media_tool.specs.Run.{state_of, telling}
use Rattle.media_tool.proofs.Feeds.{on_err}
use Rattle.media_tool.proofs.Kept.{kept_so_far_none, kept_so_far_more, kept_so_far_all, kept_so_far_stopped}
use Rattle.media_tool.proofs.session.Session.answer_lines.Goals as goal

pub loop-line-init : goal.loop-line-init
loop-line-init g c =
    let taken = g.W.Sink.taken c.args.sink.now in
    record {
      later = omega arith;
      so_far = λ line keeps. kept_so_far_none (state_of c.args.self.now.library) c.args.self.now.line line c.args.piece.now (Gathered taken c.args.gather.now taken c.args.gather.now) (gathered_none taken c.args.gather.now) keeps;
    }

pub loop-line-preserved : goal.loop-line-preserved
loop-line-preserved g c =
    let taken = g.W.Sink.taken in
    let old = c.args.self.now in
    let mid = c.loop-line.self in
    let new = c.end_line.new.self in
    record {
      later = omega (arith, c.loop-line.invariant.later, c.end_line.ensures.cause.later);
      so_far = λ line keeps. kept_so_far_more (taken c.args.sink.now) (taken c.loop-line.sink) (taken c.end_line.new.sink) c.args.gather.now c.loop-line.gather c.end_line.new.gather
          (state_of old.library) (state_of mid.library) (state_of new.library) line c.args.piece.now mid.line (with_feed c.in-Some.line.now) c.loop-line.rest.now c.in-Some.after.now new.line
          (c.loop-line.invariant.so_far line keeps) c.in-Some.ensures.whole c.in_ok-end_line.ensures.empty c.in_ok-end_line.ensures.fed;
    }

pub returns-in_err-end_line-clause-stopped : goal.returns-in_err-end_line-clause-stopped
returns-in_err-end_line-clause-stopped g c = on_err c.from_residual.result (λ line keeps.
    let taken = g.W.Sink.taken in
    let old = c.args.self.now in
    let mid = c.loop-line.self in
    kept_so_far_stopped (taken c.args.sink.now) (taken c.loop-line.sink) (taken c.end_line.new.sink) c.args.gather.now c.loop-line.gather c.end_line.new.gather
    (state_of old.library) (state_of mid.library) (state_of c.end_line.new.self.library) line c.args.piece.now mid.line c.loop-line.rest.now (c.loop-line.invariant.so_far line keeps)
    (λ between kept. subst (λ (rest : List ℕ). Stopped (telling g.K.Keeper.kept g.K.Keeper.alien g.K.Keeper.faults g.K.Keeper.used g.K.Keeper.units g.K.Keeper.limit) (state_of mid.library) between rest (state_of c.end_line.new.self.library) (TookBehind (taken c.loop-line.sink) c.loop-line.gather (taken c.end_line.new.sink))) (sym c.in-Some.ensures.whole) (c.in_err-end_line.ensures.stopped between c.in-Some.after.now kept)))

pub returns-clause-fed : goal.returns-clause-fed
returns-clause-fed g c = λ line keeps.
    let taken = g.W.Sink.taken in
    let old = c.args.self.now in
    let mid = c.loop-line.self in
    kept_so_far_all (state_of old.library) (state_of mid.library) (state_of mid.library) line c.args.piece.now mid.line c.loop-line.rest.now c.keep.new.self (taken c.args.sink.now) (taken c.loop-line.sink) c.args.gather.now c.loop-line.gather
    (c.loop-line.invariant.so_far line keeps) c.in_default.ensures.none refl c.keep.ensures

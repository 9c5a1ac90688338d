use Rattle.std.proofs.Common.{List, ℕ, Ok, subst}
use Rattle.reply_text.proofs.Joining.{rest_text-first}
use Rattle.reply_text.proofs.Steps.{PutLaws, put_item, before_stops, item_stops, none_left}
use Rattle.reply_text.proofs.part.put_joined.Goals as goal

pub loop-item-init : goal.loop-item-init
loop-item-init g c =
    λ out sink result put.
    subst (λ (text : List ℕ). g.O.Out.Puts c.args.out.now c.args.sink.now out sink text result) (rest_text-first c.args.separator.now g.T.Spelled.text c.args.items.now) put

pub returns-in_err-put : goal.returns-in_err-put
returns-in_err-put g c =
    let laws : PutLaws g.O.Out.Puts = record { nothing = g.met.O.Out.nothing; both = g.met.O.Out.both; stops = g.met.O.Out.stops } in
    c.loop-item.invariant _ _ _
    (before_stops g.O.Out.Puts laws c.args.separator.now g.T.Spelled.text c.loop-item.before.now c.args.items.now c.loop-item.item-index c.item-item.result c.loop-item-test.true c.item-item.is _ _ _ _ _ _ c.from_residual.ensures.0 c.in_err-put.ensures)

pub returns-in_err-put_in : goal.returns-in_err-put_in
returns-in_err-put_in g c =
    let laws : PutLaws g.O.Out.Puts = record { nothing = g.met.O.Out.nothing; both = g.met.O.Out.both; stops = g.met.O.Out.stops } in
    c.loop-item.invariant _ _ _
    (item_stops g.O.Out.Puts laws c.args.separator.now g.T.Spelled.text c.loop-item.before.now c.args.items.now c.loop-item.item-index c.item-item.result c.loop-item-test.true c.item-item.is _ _ _ _ _ _ _ _ c.from_residual-in_err-put_in.ensures.0 c.in_ok-put.ensures c.in_err-put_in.ensures)

pub loop-item-preserved : goal.loop-item-preserved
loop-item-preserved g c =
    let laws : PutLaws g.O.Out.Puts = record { nothing = g.met.O.Out.nothing; both = g.met.O.Out.both; stops = g.met.O.Out.stops } in
    λ out sink result rest.
    c.loop-item.invariant out sink result
    (put_item g.O.Out.Puts laws c.args.separator.now g.T.Spelled.text c.loop-item.before.now c.args.items.now c.loop-item.item-index c.item-item.result c.loop-item-test.true c.item-item.is _ _ _ _ _ _ _ _ result c.in_ok-put.ensures c.in_ok-put_in.ensures rest)

pub returns : goal.returns
returns g c =
    let laws : PutLaws g.O.Out.Puts = record { nothing = g.met.O.Out.nothing; both = g.met.O.Out.both; stops = g.met.O.Out.stops } in
    c.loop-item.invariant _ _ (Ok tt)
    (none_left g.O.Out.Puts laws c.args.separator.now g.T.Spelled.text c.loop-item.before.now c.args.items.now c.loop-item.item-index _ _ c.loop-item-test.false)

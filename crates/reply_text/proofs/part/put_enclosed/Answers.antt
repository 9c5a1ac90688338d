use Rattle.std.proofs.Common.{◌++◌}
use Rattle.reply_text.specs.Parts.{joined_text}
use Rattle.reply_text.proofs.part.put_enclosed.Goals as goal

pub returns-in_err-put : goal.returns-in_err-put
returns-in_err-put g c =
    let items = joined_text c.args.separator.now g.T.Spelled.text c.args.items.now in
    g.met.O.Out.stops _ _ _ _ c.args.opening.now (items ++ c.args.closing.now) _ _ c.from_residual.ensures.0 c.in_err-put.ensures

pub returns-in_err-put_joined : goal.returns-in_err-put_joined
returns-in_err-put_joined g c =
    let items = joined_text c.args.separator.now g.T.Spelled.text c.args.items.now in
    let put = g.met.O.Out.stops _ _ _ _ items c.args.closing.now _ _ c.from_residual-in_err-put_joined.ensures.0 c.in_err-put_joined.ensures in
    g.met.O.Out.both _ _ _ _ _ _ c.args.opening.now (items ++ c.args.closing.now) _ c.in_ok-put.ensures put

pub returns : goal.returns
returns g c =
    let items = joined_text c.args.separator.now g.T.Spelled.text c.args.items.now in
    let put = g.met.O.Out.both _ _ _ _ _ _ items c.args.closing.now _ c.in_ok-put_joined.ensures c.put-2.ensures in
    g.met.O.Out.both _ _ _ _ _ _ c.args.opening.now (items ++ c.args.closing.now) _ c.in_ok-put.ensures put

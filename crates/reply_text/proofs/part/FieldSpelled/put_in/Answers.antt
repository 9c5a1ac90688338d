use Rattle.std.proofs.Common.{◌++◌, codes, ℕ, List, subst}
use Rattle.reply_text.specs.Fields.{part_of}
use Rattle.reply_text.specs.Parts.{part_text}
use Rattle.reply_text.proofs.part.FieldSpelled.put_in.Goals as goal

pub returns-in_err-put : goal.returns-in_err-put
returns-in_err-put g c =
    let behind = codes "\":" ++ part_text (part_of c.args.self.now.1) in
    g.met.O.Out.stops _ _ _ _ (codes "\"") (c.args.self.now.0.now ++ behind) _ _ c.from_residual.ensures.0 c.in_err-put.ensures

pub returns-in_err-put-2 : goal.returns-in_err-put-2
returns-in_err-put-2 g c =
    let behind = codes "\":" ++ part_text (part_of c.args.self.now.1) in
    let name = g.met.O.Out.stops _ _ _ _ c.as_bytes.result.now behind _ _ c.from_residual-in_err-put-2.ensures.0 c.in_err-put-2.ensures in
    subst (λ (text : List ℕ). g.O.Out.Puts c.args.out.now c.args.sink.now c.put-2.new.self c.put-2.new.sink (codes "\"" ++ (text ++ behind)) c.from_residual-in_err-put-2.result) c.as_bytes.ensures.value
    (g.met.O.Out.both _ _ _ _ _ _ (codes "\"") (c.as_bytes.result.now ++ behind) _ c.in_ok-put.ensures name)

pub returns-in_err-put-3 : goal.returns-in_err-put-3
returns-in_err-put-3 g c =
    let behind = codes "\":" ++ part_text (part_of c.args.self.now.1) in
    let colon = g.met.O.Out.stops _ _ _ _ (codes "\":") (part_text (part_of c.args.self.now.1)) _ _ c.from_residual-in_err-put-3.ensures.0 c.in_err-put-3.ensures in
    let name = g.met.O.Out.both _ _ _ _ _ _ c.as_bytes.result.now behind _ c.in_ok-put-2.ensures colon in
    subst (λ (text : List ℕ). g.O.Out.Puts c.args.out.now c.args.sink.now c.put-3.new.self c.put-3.new.sink (codes "\"" ++ (text ++ behind)) c.from_residual-in_err-put-3.result) c.as_bytes.ensures.value
    (g.met.O.Out.both _ _ _ _ _ _ (codes "\"") (c.as_bytes.result.now ++ behind) _ c.in_ok-put.ensures name)

pub returns : goal.returns
returns g c =
    let behind = codes "\":" ++ part_text (part_of c.args.self.now.1) in
    let colon = g.met.O.Out.both _ _ _ _ _ _ (codes "\":") (part_text (part_of c.args.self.now.1)) _ c.in_ok-put-3.ensures c.put_in.ensures in
    let name = g.met.O.Out.both _ _ _ _ _ _ c.as_bytes.result.now behind _ c.in_ok-put-2.ensures colon in
    subst (λ (text : List ℕ). g.O.Out.Puts c.args.out.now c.args.sink.now c.put_in.new.out c.put_in.new.sink (codes "\"" ++ (text ++ behind)) c.put_in.result) c.as_bytes.ensures.value
    (g.met.O.Out.both _ _ _ _ _ _ (codes "\"") (c.as_bytes.result.now ++ behind) _ c.in_ok-put.ensures name)

use Rattle.std.proofs.Common.{List, ℕ, ◌+◌, Option, Bor, inr, ap, subst, sym, map, ◌∙◌}
use Rattle.serde_json.specs.Find.{as_str}
use Rattle.command_text.specs.Forms.{formed}
use Rattle.command_text.proofs.EachLaws.{IsReadTo, read_none, read_more, read_stops, read_all, texts_more}
use Rattle.command_text.proofs.fields.texts_in.Goals as goal

pub loop-item-init : goal.loop-item-init
loop-item-init c =
    subst (λ (texts : List (Bor (List ℕ))). IsReadTo as_str c.args.items.now 0 (map (λ text. text.now) texts)) (sym c.new-texts.ensures) (read_none as_str c.args.items.now)

pub returns-in_default : goal.returns-in_default
returns-in_default c =
    inr (ap (λ (found : Option (List (List ℕ))). formed c.args.name found) (read_stops as_str c.args.items.now c.loop-item.item-index _ c.item-item.result c.loop-item-test.true c.item-item.is c.in_default.ensures c.loop-item.invariant))

pub loop-item-preserved : goal.loop-item-preserved
loop-item-preserved c =
    subst (λ (texts : List (List ℕ)). IsReadTo as_str c.args.items.now (c.loop-item.item-index + 1) texts)
    (texts_more c.loop-item.texts c.in-Some.text ∙ ap (map (λ (text : Bor (List ℕ)). text.now)) (sym c.in_ok-push.ensures.ok))
    (read_more as_str c.args.items.now c.loop-item.item-index _ c.item-item.result c.loop-item-test.true c.item-item.is c.in-Some.text.now c.in-Some.ensures c.loop-item.invariant)

pub returns : goal.returns
returns c =
    ap (λ (found : Option (List (List ℕ))). formed c.args.name found) (read_all as_str c.args.items.now c.loop-item.item-index _ c.loop-item-test.false c.loop-item.invariant)

use Rattle.std.proofs.Common.{List, ◌+◌, Option, inr, ap, subst, sym}
use Rattle.media_types.specs.declared.numbers.FileNo.{FileNo}
use Rattle.command_text.specs.Forms.{formed, file_in}
use Rattle.command_text.proofs.EachLaws.{IsReadTo, read_none, read_more, read_stops, read_all}
use Rattle.command_text.proofs.fields.files_in.Goals as goal

pub loop-item-init : goal.loop-item-init
loop-item-init c =
    subst (λ (files : List FileNo). IsReadTo file_in c.args.items.now 0 files) (sym c.new-files.ensures) (read_none file_in c.args.items.now)

pub returns-in_default : goal.returns-in_default
returns-in_default c =
    inr (ap (λ (found : Option (List FileNo)). formed c.args.name found) (read_stops file_in c.args.items.now c.loop-item.item-index _ c.item-item.result c.loop-item-test.true c.item-item.is c.in_default.ensures c.loop-item.invariant))

pub loop-item-preserved : goal.loop-item-preserved
loop-item-preserved c =
    subst (λ (files : List FileNo). IsReadTo file_in c.args.items.now (c.loop-item.item-index + 1) files) (sym c.in_ok-push.ensures.ok)
    (read_more file_in c.args.items.now c.loop-item.item-index _ c.item-item.result c.loop-item-test.true c.item-item.is c.in-Some.file c.in-Some.ensures c.loop-item.invariant)

pub returns : goal.returns
returns c =
    ap (λ (found : Option (List FileNo)). formed c.args.name found) (read_all file_in c.args.items.now c.loop-item.item-index _ c.loop-item-test.false c.loop-item.invariant)

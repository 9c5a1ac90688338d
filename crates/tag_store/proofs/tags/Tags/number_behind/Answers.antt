use Rattle.std.proofs.Common.{None, Some, arith, refl, sym, ◌∙◌}
use Rattle.tag_store.specs.NumberingLaws.{new_behind, same_behind, tag_by}
use Rattle.tag_store.proofs.tags.Tags.number_behind.Goals as goal

pub returns-then-not-is_new_behind : goal.returns-then-not-is_new_behind
returns-then-not-is_new_behind c =
    c.number.ensures ∙ sym (same_behind c.args.first.now c.args.second.now c.args.self.now.texts (sym c.if-not-is_new_behind.ensures))

pub returns-in-Some : goal.returns-in-Some
returns-in-Some c =
    let known = tag_by c.args.first.now c.args.self.now.texts (Some c.in-Some.field-0.0) c.in-Some.ensures in
    let number = new_behind c.args.first.now c.args.second.now c.args.self.now.texts (sym c.if-not-is_new_behind.ensures) in
    rw (number, known, c.len.ensures.texts) (omega arith)

pub returns-in-None : goal.returns-in-None
returns-in-None c =
    let new = tag_by c.args.first.now c.args.self.now.texts None c.in-None.ensures in
    let number = new_behind c.args.first.now c.args.second.now c.args.self.now.texts (sym c.if-not-is_new_behind.ensures) in
    rw (number, new, c.len-in-None.ensures.texts) refl

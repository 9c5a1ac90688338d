use Rattle.std.proofs.Common.{Result, Ok, Err, IfOk, length, ap, arith}
use Rattle.parent_closure.specs.Kept.{first_place, is_pair}
use Rattle.sibling_chains.specs.Recorded.{standing_place}
use Rattle.sibling_chains.specs.RowLaws.{length-removed}
use Rattle.tag_relations.proofs.tests.plan_edit.Goals as goal

both : {T E : Type 0} {P Q R : T → Type 0} (r : Result T E) → ((x : T) → P x → Q x → R x) → IfOk r P → IfOk r Q → IfOk r R
both (Ok x) made p q = made x p q
both (Err e) made p q = q

pub returns-in-NoSibling-clause-few : goal.returns-in-NoSibling-clause-few
returns-in-NoSibling-clause-few g c =
    let place = standing_place c.pair_of.result.0.0 c.pair_of.result.1.0 c.args.relations.now.siblings.rows in
    let same = length-removed place c.args.relations.now.siblings.rows in
    let few = c.sibling_rows_len-siblings.ensures.few in
    let also = c.parent_rows_len-parents.ensures.few in
    both c.plan_no_sibling.result
    (λ plan rows others.
    let count = ap length rows in
    let other = ap length others in
    record {
      siblings = omega (arith, count, same, c.sibling_rows_len-siblings.ensures.rows, few);
      parents = omega (arith, other, c.parent_rows_len-parents.ensures.rows, also);
    })
    c.plan_no_sibling.ensures.siblings c.plan_no_sibling.ensures.parents

pub returns-in-NoParent-clause-few : goal.returns-in-NoParent-clause-few
returns-in-NoParent-clause-few g c =
    let place = first_place (is_pair c.pair_of.result.0.0 c.pair_of.result.1.0 c.pair_of.result.2.0) c.args.relations.now.parents.rows in
    let same = length-removed place c.args.relations.now.parents.rows in
    let few = c.sibling_rows_len-siblings.ensures.few in
    let also = c.parent_rows_len-parents.ensures.few in
    both c.plan_no_parent.result
    (λ plan others rows.
    let count = ap length rows in
    let other = ap length others in
    record {
      siblings = omega (arith, other, c.sibling_rows_len-siblings.ensures.rows, few);
      parents = omega (arith, count, same, c.parent_rows_len-parents.ensures.rows, also);
    })
    c.plan_no_parent.ensures.siblings c.plan_no_parent.ensures.parents

use Rattle.std.proofs.Common.{◌≡◌, ◌∙◌, ℕ, List, length, get_or, take, sym, ap, arith}
use Rattle.std.proofs.lemmas.List.{take_all}
use Rattle.media_types.specs.declared.numbers.ServiceNo.{ServiceNo}
use Rattle.sibling_chains.specs.declared.relation_row.RelationRow.{RelationRow}
use Rattle.sibling_chains.specs.EndLaws.{ideal-ends}
use Rattle.sibling_chains.specs.Ends.{end_beside, ends_after}
use Rattle.sibling_chains.specs.Recorded.{ideal, pairs_in, pairs_of}
use Rattle.sibling_chains.proofs.Folds.{after-service, beside-own}
use Rattle.sibling_chains.proofs.fold.fold_cluster.Goals as goal

abbrev none : ServiceNo
none = record { 0 = 0 }

pub loop-service-init : goal.loop-service-init
loop-service-init c =
    let items : c.in_ok-chain_ends.chain_ends.items ≡ c.args.tags.now = c.in_ok-chain_ends.ensures.items in
    record {
      len = ap (λ (l : List ℕ). length l) items;
      met = ap (λ (l : List ℕ). end_beside c.args.tags.now l) items ∙ beside-own c.args.tags.now;
    }

pub loop-service-preserved : goal.loop-service-preserved
loop-service-preserved c =
    let rows : List RelationRow = c.args.rows.now in
    let order : List ServiceNo = c.as_slice-service-items.result.now in
    let i = c.loop-service.service-index in
    record {
      len = c.meet_all.ensures.len;
      met = c.meet_all.ensures.met
          ∙ ap (ends_after (pairs_of rows (get_or order i none))) c.loop-service.invariant.met
          ∙ sym (after-service rows order i none (λ t. t) c.loop-service-test.true);
    }

pub returns-clause-ends : goal.returns-clause-ends
unfolding ideal
returns-clause-ends c = λ t.
    let rows : List RelationRow = c.args.rows.now in
    let order : List ServiceNo = c.as_slice-service-items.result.now in
    let all : take c.loop-service.service-index order ≡ c.args.order.now =
    take_all c.loop-service.service-index order (omega (arith, c.loop-service-test.false)) ∙ c.as_slice-service-items.ensures in
    ap (λ (f : ℕ → ℕ). f t) c.loop-service.invariant.met
    ∙ ap (λ l. ends_after (pairs_in l rows) (λ x. x) t) all
    ∙ sym (ideal-ends (pairs_in c.args.order.now rows) t)

use Rattle.std.proofs.Common.{◌≡◌, ◌⊎◌, ◌∙◌, ◌+◌, ℕ, true, sym, ap, inl, inr}
use Rattle.std.specs.Option.{is_some}
use Rattle.spare_tables.specs.Keys.{value_of}
use Rattle.spare_tables.specs.Order.{pair_cmp}
use Rattle.relation_groups.specs.Reading.{relations_in}
use Rattle.potential_pairs.specs.Naming.{live_name, weight}
use Rattle.potential_pairs.specs.Potential.{KeptPairs}
use Rattle.potential_pairs.proofs.Clauses.{on_ok, on_ok_always}
use Rattle.potential_pairs.proofs.PlannedRows.{counted-added, length-near_added, near-added, near-known, near-new, planned_count-kept}
use Rattle.potential_pairs.proofs.pairs.Pairs.plan_near.Goals as goal
use Rattle.potential_pairs.proofs.pairs.Pairs.plan_near.Goals.{then-has_near-via-then-has_near, then-has_near-via-else-has_near+then-contains}

pub returns-then-has_near-clause-near : goal.returns-then-has_near-clause-near
returns-then-has_near-clause-near g c =
    let rows = c.args.self.now.rows in
    let plan = c.args.plan.now in
    let files : ℕ × ℕ = (c.args.found.0.0, c.args.found.1.0) in
    let here = ap (λ (kept : KeptPairs). is_some (value_of pair_cmp kept.rows.near files)) c.self.view_is in
    let known : (is_some (value_of pair_cmp rows.near files) ≡ true) ⊎ (is_some (value_of pair_cmp plan.near files) ≡ true) = elim c.then-has_near.branch [
      | then-has_near-via-then-has_near w ↦ inr (sym c.has_near.ensures.value ∙ w.if-has_near.true)
      | then-has_near-via-else-has_near+then-contains w ↦ inl (sym here ∙ sym w.contains.ensures.value ∙ w.if-contains.true)
    ] in
    near-known rows plan files c.args.found.2 c.in_order.ensures.near c.has_near.ensures.sorted known c.requires.same

pub returns-clause-near : goal.returns-clause-near
returns-clause-near g c =
    let rows = c.args.self.now.rows in
    let files : ℕ × ℕ = (c.args.found.0.0, c.args.found.1.0) in
    on_ok_always c.plan_more.result (near-added rows c.in_order.ensures.near c.args.plan.now c.plan_more.new.plan files c.args.found.2 c.has_near.ensures.sorted (c.plan_more.ensures.near ∙ c.in_ok-add_near.ensures.near))

pub returns-clause-counted : goal.returns-clause-counted
returns-clause-counted g c =
    let rows = c.args.self.now.rows in
    let plan = c.args.plan.now in
    let files : ℕ × ℕ = (c.args.found.0.0, c.args.found.1.0) in
    let naming = live_name (relations_in c.args.groups.now) rows.gone in
    let here = ap (λ (kept : KeptPairs). is_some (value_of pair_cmp kept.rows.near files)) c.self.view_is in
    let none = near-new rows plan files c.in_order.ensures.near c.has_near.ensures.sorted (sym here ∙ sym c.contains.ensures.value ∙ c.if-contains.false) (sym c.has_near.ensures.value ∙ c.if-has_near.false) in
    on_ok c.plan_more.result (λ counts.
    counted-added naming rows plan c.plan_more.new.plan files c.args.found.2 c.in_order.ensures.near c.has_near.ensures.sorted (c.plan_more.ensures.near ∙ c.in_ok-add_near.ensures.near) none
    (λ q d. counts q d ∙ (λ i. planned_count-kept plan c.add_near.new.self rows c.in_ok-add_near.ensures.tallies q d i + weight (c.name_of_live-name.ensures.name i) c.args.found.2 q d))
    c.requires.counted) c.plan_more.ensures.tallies

pub returns-clause-more : goal.returns-clause-more
returns-clause-more g c =
    let rows = c.args.self.now.rows in
    let plan = c.args.plan.now in
    let files : ℕ × ℕ = (c.args.found.0.0, c.args.found.1.0) in
    let here = ap (λ (kept : KeptPairs). is_some (value_of pair_cmp kept.rows.near files)) c.self.view_is in
    on_ok_always c.plan_more.result (length-near_added rows plan c.plan_more.new.plan files c.args.found.2 c.in_order.ensures.near c.has_near.ensures.sorted (c.plan_more.ensures.near ∙ c.in_ok-add_near.ensures.near)
    (sym here ∙ sym c.contains.ensures.value ∙ c.if-contains.false) (sym c.has_near.ensures.value ∙ c.if-has_near.false))

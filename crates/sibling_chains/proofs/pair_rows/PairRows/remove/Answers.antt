use Rattle.std.proofs.Common.{◌≡◌, ◌≢◌, ◌∙◌, List, length, set, Some, None, sym, ap, subst, rules, arith}
use Rattle.std.proofs.Math.ListN.{length-set}
use Rattle.spare_tables.specs.Keys.{value_of}
use Rattle.spare_tables.specs.Order.{pair_cmp}
use Rattle.sibling_chains.specs.declared.relation_row.RelationRow.{RelationRow}
use Rattle.sibling_chains.specs.Following.{Pair}
use Rattle.sibling_chains.specs.PairTable.{ArePlaced, PairTable}
use Rattle.sibling_chains.specs.Recorded.{removed, removed_at, standing_at, standing_place}
use Rattle.sibling_chains.specs.RowLaws.{removed-past, set-removed}
use Rattle.sibling_chains.proofs.Places.{placed-removed, standing-none, standing-within}
use Rattle.sibling_chains.proofs.pair_rows.PairRows.remove.Goals as goal

pub exchange-row-requires : goal.exchange-row-requires
exchange-row-requires c =
    let s = c.self.inside in
    let service : c.from.result ≡ c.args.service.0 = search rules in
    let at : c.from-at.result ≡ c.in-Some.number = search rules in
    let found : Some c.in-Some.number ≡ standing_at c.args.service.0 c.args.bad.0 s.rows.rows =
    c.in-Some.ensures.old ∙ ap (λ n. value_of pair_cmp s.places.rows (n, c.args.bad.0)) service ∙ c.self.invariant.placed c.args.service.0 c.args.bad.0 in
    let within = standing-within c.args.service.0 c.args.bad.0 s.rows.rows c.in-Some.number (sym found) in
    omega (arith, within.0, at)

pub set-requires : goal.set-requires
set-requires c =
    let s = c.self.inside in
    let service : c.from.result ≡ c.args.service.0 = search rules in
    let at : c.from-at.result ≡ c.in-Some.number = search rules in
    let found : Some c.in-Some.number ≡ standing_at c.args.service.0 c.args.bad.0 s.rows.rows =
    c.in-Some.ensures.old ∙ ap (λ n. value_of pair_cmp s.places.rows (n, c.args.bad.0)) service ∙ c.self.invariant.placed c.args.service.0 c.args.bad.0 in
    let within = standing-within c.args.service.0 c.args.bad.0 s.rows.rows c.in-Some.number (sym found) in
    let len = ap (λ (l : List RelationRow). length l) c.exchange-row.ensures.rows ∙ length-set s.rows.rows c.from-at.result _ in
    omega (arith, within.0, at, len)

pub invariant_of-self : goal.invariant_of-self
invariant_of-self c =
    let s = c.self.inside in
    let rows : List RelationRow = s.rows.rows in
    let b = c.args.bad.0 in
    let of = c.args.service.0 in
    let service : c.from.result ≡ of = search rules in
    let at : c.from-at.result ≡ c.in-Some.number = search rules in
    let found : Some c.in-Some.number ≡ standing_at of b rows =
    c.in-Some.ensures.old ∙ ap (λ n. value_of pair_cmp s.places.rows (n, b)) service ∙ c.self.invariant.placed of b in
    let within = standing-within of b rows c.in-Some.number (sym found) in
    let place : c.from-at.result ≡ standing_place of b rows = at ∙ sym within.1 in
    let new : c.set.new.self.rows ≡ removed_at (standing_place of b rows) rows =
    c.set.ensures.rows ∙ ap (λ (l : List RelationRow). set l c.from-at.result (removed c.exchange-row.result)) c.exchange-row.ensures.rows
    ∙ set-removed rows c.from-at.result c.exchange-row.result _ c.exchange-row.ensures.old ∙ ap (λ n. removed_at n rows) place in
    let this : value_of pair_cmp c.take.new.self.rows (of, b) ≡ None = rw service at c.take.ensures.this in
    let others : (k : Pair) → k ≢ (of, b) → value_of pair_cmp c.take.new.self.rows k ≡ value_of pair_cmp s.places.rows k =
    subst (λ n. (k : Pair) → k ≢ (n, b) → value_of pair_cmp c.take.new.self.rows k ≡ value_of pair_cmp s.places.rows k) service c.take.ensures.others in
    subst (λ l. ArePlaced l c.take.new.self.rows) (sym new) (placed-removed rows s.places.rows c.take.new.self.rows of b c.self.invariant this others)

pub invariant_of-self-in_default : goal.invariant_of-self-in_default
invariant_of-self-in_default c =
    let s = c.self.inside in
    let rows : List RelationRow = s.rows.rows in
    let b = c.args.bad.0 in
    let of = c.args.service.0 in
    let service : c.from.result ≡ of = search rules in
    let none : standing_at of b rows ≡ None =
    sym (sym c.in_default.is ∙ c.take.ensures.old ∙ ap (λ n. value_of pair_cmp s.places.rows (n, b)) service ∙ c.self.invariant.placed of b) in
    let past : removed_at (standing_place of b rows) rows ≡ rows = removed-past (standing_place of b rows) rows (omega (arith, (standing-none of b rows none).0)) in
    let this : value_of pair_cmp c.take.new.self.rows (of, b) ≡ None = rw service at c.take.ensures.this in
    let others : (k : Pair) → k ≢ (of, b) → value_of pair_cmp c.take.new.self.rows k ≡ value_of pair_cmp s.places.rows k =
    subst (λ n. (k : Pair) → k ≢ (n, b) → value_of pair_cmp c.take.new.self.rows k ≡ value_of pair_cmp s.places.rows k) service c.take.ensures.others in
    subst (λ l. ArePlaced l c.take.new.self.rows) past (placed-removed rows s.places.rows c.take.new.self.rows of b c.self.invariant this others)

pub returns-in-Some-clause-rows : goal.returns-in-Some-clause-rows
returns-in-Some-clause-rows c =
    let s = c.self.inside in
    let rows : List RelationRow = s.rows.rows in
    let b = c.args.bad.0 in
    let of = c.args.service.0 in
    let service : c.from.result ≡ of = search rules in
    let at : c.from-at.result ≡ c.in-Some.number = search rules in
    let found : Some c.in-Some.number ≡ standing_at of b rows =
    c.in-Some.ensures.old ∙ ap (λ n. value_of pair_cmp s.places.rows (n, b)) service ∙ c.self.invariant.placed of b in
    let within = standing-within of b rows c.in-Some.number (sym found) in
    let place : c.from-at.result ≡ standing_place of b rows = at ∙ sym within.1 in
    c.set.ensures.rows ∙ ap (λ (l : List RelationRow). set l c.from-at.result (removed c.exchange-row.result)) c.exchange-row.ensures.rows
    ∙ set-removed rows c.from-at.result c.exchange-row.result _ c.exchange-row.ensures.old ∙ ap (λ n. removed_at n rows) place
    ∙ ap (λ (table : PairTable). removed_at (standing_place of b table.rows) table.rows) c.self.view_is

pub returns-in_default-clause-rows : goal.returns-in_default-clause-rows
returns-in_default-clause-rows c =
    let s = c.self.inside in
    let rows : List RelationRow = s.rows.rows in
    let b = c.args.bad.0 in
    let of = c.args.service.0 in
    let service : c.from.result ≡ of = search rules in
    let none : standing_at of b rows ≡ None =
    sym (sym c.in_default.is ∙ c.take.ensures.old ∙ ap (λ n. value_of pair_cmp s.places.rows (n, b)) service ∙ c.self.invariant.placed of b) in
    sym (removed-past (standing_place of b rows) rows (omega (arith, (standing-none of b rows none).0)))
    ∙ ap (λ (table : PairTable). removed_at (standing_place of b table.rows) table.rows) c.self.view_is

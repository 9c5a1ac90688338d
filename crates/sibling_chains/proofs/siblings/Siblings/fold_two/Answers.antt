use Rattle.std.proofs.Common.{◌≡◌, ◌∙◌, ◌<◌, ◌==◌, ℕ, List, All, true, length, map, get_or, sym, ap, subst, arith}
use Rattle.std.specs.List.{list_any}
use Rattle.std.specs.Option.{ForSome}
use Rattle.sibling_chains.specs.declared.relation_row.RelationRow.{RelationRow}
use Rattle.sibling_chains.specs.Clustered.{IsClusterOf, is_of_two, rows_but}
use Rattle.sibling_chains.specs.Clusters.{rows_within}
use Rattle.sibling_chains.specs.Known.{AreEndsFor, rows_with}
use Rattle.sibling_chains.specs.Recorded.{no_row}
use Rattle.sibling_chains.proofs.Gathered.{passed-below}
use Rattle.sibling_chains.proofs.Refolding.{firsts-there, numbers-counted, rows-gathered}
use Rattle.sibling_chains.proofs.siblings.Siblings.fold_two.Goals as goal

pub rows_of-requires : goal.rows_of-requires
rows_of-requires g c =
    let v = c.self.inside.clusters in
    let cluster : IsClusterOf v c.args.a.0 c.args.b.0 c.in_ok-cluster.cluster = c.in_ok-cluster.ensures.cluster in
    subst (All (λ n. n < length v.rows)) (sym (c.as_slice.ensures.value ∙ cluster.rows))
    (passed-below (λ n. is_of_two v.rows v.ties c.args.a.0 c.args.b.0 (get_or v.rows n no_row).first.0) (length v.rows))

pub returns-in_err-rows-clause-steps : goal.returns-in_err-rows-clause-steps
returns-in_err-rows-clause-steps g c =
    let v = c.self.inside.clusters in
    let count = numbers-counted v c.args.a.0 c.args.b.0 c.in_ok-cluster.cluster c.in_ok-cluster.ensures.cluster in
    rw (← c.self.view_is) (omega (arith, count, ap (λ (l : List ℕ). length l) c.as_slice.ensures.value, c.in_ok-cluster.ensures.steps, c.rows_of.ensures.steps))

pub returns-in_err-push_added-clause-steps : goal.returns-in_err-push_added-clause-steps
returns-in_err-push_added-clause-steps g c =
    let v = c.self.inside.clusters in
    let count = numbers-counted v c.args.a.0 c.args.b.0 c.in_ok-cluster.cluster c.in_ok-cluster.ensures.cluster in
    rw (← c.self.view_is) (omega (arith, count, ap (λ (l : List ℕ). length l) c.as_slice.ensures.value, c.in_ok-cluster.ensures.steps, c.rows_of.ensures.steps))

pub returns-in_err-ends-clause-steps : goal.returns-in_err-ends-clause-steps
returns-in_err-ends-clause-steps g c =
    let v = c.self.inside.clusters in
    let count = numbers-counted v c.args.a.0 c.args.b.0 c.in_ok-cluster.cluster c.in_ok-cluster.ensures.cluster in
    rw (← c.self.view_is) (omega (arith, count, ap (λ (l : List ℕ). length l) c.as_slice.ensures.value, c.in_ok-cluster.ensures.steps, c.rows_of.ensures.steps))

pub returns-clause-steps : goal.returns-clause-steps
returns-clause-steps g c =
    let v = c.self.inside.clusters in
    let count = numbers-counted v c.args.a.0 c.args.b.0 c.in_ok-cluster.cluster c.in_ok-cluster.ensures.cluster in
    rw (← c.self.view_is) (omega (arith, count, ap (λ (l : List ℕ). length l) c.as_slice.ensures.value, c.in_ok-cluster.ensures.steps, c.rows_of.ensures.steps))

pub fold_all-requires : goal.fold_all-requires
fold_all-requires g c =
    let v = c.self.inside.clusters in
    let cluster : IsClusterOf v c.args.a.0 c.args.b.0 c.in_ok-cluster.cluster = c.in_ok-cluster.ensures.cluster in
    let first : ForSome c.args.added (λ row. row.first.0 ≡ c.args.a.0) = λ row is. ap (λ t. t.0) (c.requires.added row is) in
    let read : c.as_slice-3.result.now ≡ rows_within (is_of_two v.rows v.ties c.args.a.0 c.args.b.0) (rows_with c.args.added (rows_but c.args.gone v.rows)) =
    c.as_slice-3.ensures.value ∙ c.in_ok-push_added.ensures ∙ ap (rows_with c.args.added) (c.in_ok-rows.ensures.rows ∙ ap (map (λ n. get_or (rows_but c.args.gone v.rows) n no_row)) c.as_slice.ensures.value)
    ∙ rows-gathered v c.args.a.0 c.args.b.0 c.in_ok-cluster.cluster cluster c.args.gone c.args.added first in
    subst (λ l. All (λ (row : RelationRow). list_any (λ t. t == row.first.0) c.as_slice-2.result.now ≡ true) l) (sym read)
    (subst (λ l. All (λ (row : RelationRow). list_any (λ t. t == row.first.0) l ≡ true) (rows_within (is_of_two v.rows v.ties c.args.a.0 c.args.b.0) (rows_with c.args.added (rows_but c.args.gone v.rows)))) (sym c.as_slice-2.ensures.value)
    (firsts-there v c.args.a.0 c.args.b.0 c.in_ok-cluster.cluster cluster (rows_with c.args.added (rows_but c.args.gone v.rows))))

pub returns-clause-refold : goal.returns-clause-refold
returns-clause-refold g c =
    let v = c.self.inside.clusters in
    let orders = c.self.inside.orders.items in
    let cluster : IsClusterOf v c.args.a.0 c.args.b.0 c.in_ok-cluster.cluster = c.in_ok-cluster.ensures.cluster in
    let first : ForSome c.args.added (λ row. row.first.0 ≡ c.args.a.0) = λ row is. ap (λ t. t.0) (c.requires.added row is) in
    let rows : List RelationRow = rows_within (is_of_two v.rows v.ties c.args.a.0 c.args.b.0) (rows_with c.args.added (rows_but c.args.gone v.rows)) in
    let read : c.as_slice-3.result.now ≡ rows =
    c.as_slice-3.ensures.value ∙ c.in_ok-push_added.ensures ∙ ap (rows_with c.args.added) (c.in_ok-rows.ensures.rows ∙ ap (map (λ n. get_or (rows_but c.args.gone v.rows) n no_row)) c.as_slice.ensures.value)
    ∙ rows-gathered v c.args.a.0 c.args.b.0 c.in_ok-cluster.cluster cluster c.args.gone c.args.added first in
    let ends = c.in_ok-ends.ends.items in
    let by-orders : AreEndsFor c.as_slice-2.result.now c.as_slice-3.result.now orders ends (length orders) =
    subst (λ o. AreEndsFor c.as_slice-2.result.now c.as_slice-3.result.now o ends (length o)) c.as_slice-4.ensures.value c.in_ok-ends.ensures in
    let by-rows : AreEndsFor c.as_slice-2.result.now rows orders ends (length orders) =
    subst (λ l. AreEndsFor c.as_slice-2.result.now l orders ends (length orders)) read by-orders in
    rw (← c.self.view_is) (record {
      cluster = record { label = cluster.label; tags = cluster.tags; rows = cluster.rows; whole = cluster.whole };
      ends = subst (λ l. AreEndsFor l rows orders ends (length orders)) c.as_slice-2.ensures.value by-rows;
    })

use Rattle.std.proofs.Common.{◌≡◌, ◌∙◌, ◌<◌, ◌≤◌, ◌==◌, ℕ, List, All, Bool, None, cond, true, length, map, get_or, sym, ap, subst}
use Rattle.std.specs.List.{list_any}
use Rattle.sibling_chains.specs.declared.relation_row.RelationRow.{RelationRow}
use Rattle.sibling_chains.specs.Clustered.{IsClusterOf, is_of_two, label_of}
use Rattle.sibling_chains.specs.Clusters.{rows_within}
use Rattle.sibling_chains.specs.Ends.{at, end_beside}
use Rattle.sibling_chains.specs.Recorded.{ideal, no_row}
use Rattle.sibling_chains.proofs.Gathered.{passed-below}
use Rattle.sibling_chains.proofs.Refolding.{firsts-there, fold-label, known-tags, no-label, rows-gathered}
use Rattle.sibling_chains.proofs.siblings.Siblings.fold_label.Goals as goal

pub returns-then-label-clause-ok : goal.returns-then-label-clause-ok
returns-then-label-clause-ok g c = λ t.
    let v = c.self.inside.clusters in
    let no = no-label v.rows v.ties c.args.label t (λ own. c.if-label.true (c.label.ensures ∙ own)) in
    rw (← c.self.view_is) (sym (ap (λ b. cond b (ideal c.args.order.now v.rows t) (at c.args.ends.now t)) no))

pub rows_of-requires : goal.rows_of-requires
rows_of-requires g c =
    let v = c.self.inside.clusters in
    let cluster : IsClusterOf v c.args.label c.args.label c.in_ok-cluster.cluster = c.in_ok-cluster.ensures.cluster in
    subst (All (λ n. n < length v.rows)) (sym (c.as_slice.ensures.value ∙ cluster.rows))
    (passed-below (λ n. is_of_two v.rows v.ties c.args.label c.args.label (get_or v.rows n no_row).first.0) (length v.rows))

pub fold_cluster-requires : goal.fold_cluster-requires
fold_cluster-requires g c =
    let v = c.self.inside.clusters in
    let cluster : IsClusterOf v c.args.label c.args.label c.in_ok-cluster.cluster = c.in_ok-cluster.ensures.cluster in
    let read : c.as_slice-3.result.now ≡ rows_within (is_of_two v.rows v.ties c.args.label c.args.label) v.rows =
    c.as_slice-3.ensures.value ∙ c.in_ok-rows.ensures.rows ∙ ap (map (λ n. get_or v.rows n no_row)) c.as_slice.ensures.value
    ∙ rows-gathered v c.args.label c.args.label c.in_ok-cluster.cluster cluster None None (λ row is. absurd (cc)) in
    subst (λ l. All (λ (row : RelationRow). list_any (λ t. t == row.first.0) c.as_slice-2.result.now ≡ true) l) (sym read)
    (subst (λ l. All (λ (row : RelationRow). list_any (λ t. t == row.first.0) l ≡ true) (rows_within (is_of_two v.rows v.ties c.args.label c.args.label) v.rows)) (sym c.as_slice-2.ensures.value)
    (firsts-there v c.args.label c.args.label c.in_ok-cluster.cluster cluster v.rows))

pub put-requires-clause-known : goal.put-requires-clause-known
put-requires-clause-known g c =
    let v = c.self.inside.clusters in
    let cluster : IsClusterOf v c.args.label c.args.label c.in_ok-cluster.cluster = c.in_ok-cluster.ensures.cluster in
    let long : v.tags ≤ length c.args.ends.now = rw (← c.self.view_is) at c.requires.long in
    known-tags v.tags c.as_slice-4.result.now c.args.ends.now long
    (subst (All (λ t. t < v.tags)) (sym (c.as_slice-4.ensures.value ∙ cluster.tags)) (passed-below (is_of_two v.rows v.ties c.args.label c.args.label) v.tags))

pub returns-clause-ok : goal.returns-clause-ok
returns-clause-ok g c = λ t.
    let v = c.self.inside.clusters in
    let order = c.args.order.now in
    let cluster : IsClusterOf v c.args.label c.args.label c.in_ok-cluster.cluster = c.in_ok-cluster.ensures.cluster in
    let tags : List ℕ = c.in_ok-cluster.cluster.tags.items in
    let list : List ℕ = c.in_ok-list.list.items in
    let S : ℕ → Bool = is_of_two v.rows v.ties c.args.label c.args.label in
    let read : c.as_slice-3.result.now ≡ rows_within S v.rows =
    c.as_slice-3.ensures.value ∙ c.in_ok-rows.ensures.rows ∙ ap (map (λ n. get_or v.rows n no_row)) c.as_slice.ensures.value
    ∙ rows-gathered v c.args.label c.args.label c.in_ok-cluster.cluster cluster None None (λ row is. absurd (cc)) in
    let own : label_of v.rows v.ties c.args.label ≡ c.args.label = sym c.label.ensures ∙ c.if-label.false in
    let folded : end_beside tags list t ≡ ideal order (rows_within S v.rows) t =
    ap (λ l. end_beside l list t) (sym c.as_slice-2.ensures.value) ∙ c.in_ok-list.ensures.ends t ∙ ap (λ l. ideal order l t) read in
    let put : at c.put.new.self t ≡ cond (list_any (λ x. x == t) tags) (end_beside tags list t) (at c.args.ends.now t) =
    c.put.ensures.put t
    ∙ ap (λ l. cond (list_any (λ x. x == t) l) (end_beside l c.as_slice-5.result.now t) (at c.args.ends.now t)) c.as_slice-4.ensures.value
    ∙ ap (λ l. cond (list_any (λ x. x == t) tags) (end_beside tags l t) (at c.args.ends.now t)) c.as_slice-5.ensures.value in
    rw (← c.self.view_is) (put ∙ fold-label v.rows v.ties order c.args.label tags list (at c.args.ends.now t) t own (cluster.whole t) folded)

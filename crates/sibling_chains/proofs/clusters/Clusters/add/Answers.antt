use Rattle.std.proofs.Common.{◌≡◌, ◌∙◌, ◌<◌, ◌==◌, ◌++◌, ◌∷◌, [], ℕ, List, All, cond, get_or, length, filter, min, true, refl, sym, ap, subst}
use Rattle.std.specs.List.{list_any, range_with_len}
use Rattle.sibling_chains.specs.declared.relation_row.RelationRow.{RelationRow}
use Rattle.sibling_chains.specs.Clustered.{AreClustered, IsClusterOf, is_of_two, label_of}
use Rattle.sibling_chains.specs.Ends.{at}
use Rattle.sibling_chains.specs.Recorded.{no_row}
use Rattle.sibling_chains.proofs.Gathered.{passed-below}
use Rattle.sibling_chains.proofs.Joining.{clustered-add, rows-len}
use Rattle.sibling_chains.proofs.clusters.Clusters.add.Goals as goal

pub put_all-requires : goal.put_all-requires
put_all-requires c =
    let s = c.self.inside in
    let rows : List RelationRow = s.pairs.rows in
    let ties = s.ties.rows in
    let of_tags : List ℕ = s.tags.labels in
    let of_rows : List ℕ = s.rows.labels in
    let cluster : IsClusterOf (c.args.self.now) c.args.bad.0 c.args.good.0 c.args.cluster.now = c.requires.cluster in
    let tags : c.args.cluster.now.tags.items ≡ filter (is_of_two rows ties c.args.bad.0 c.args.good.0) (range_with_len 0 (length of_tags)) = rw (← c.self.view_is) at cluster.tags in
    let numbers : c.args.cluster.now.rows.items ≡ filter (λ n. is_of_two rows ties c.args.bad.0 c.args.good.0 (get_or rows n no_row).first.0) (range_with_len 0 (length rows)) = rw (← c.self.view_is) at cluster.rows in
    subst (All (λ n. n < length of_tags)) (sym (c.as_slice.ensures.value ∙ tags)) (passed-below (is_of_two rows ties c.args.bad.0 c.args.good.0) (length of_tags))

pub put_all-requires-2 : goal.put_all-requires-2
put_all-requires-2 c =
    let s = c.self.inside in
    let rows : List RelationRow = s.pairs.rows in
    let ties = s.ties.rows in
    let of_tags : List ℕ = s.tags.labels in
    let of_rows : List ℕ = s.rows.labels in
    let cluster : IsClusterOf (c.args.self.now) c.args.bad.0 c.args.good.0 c.args.cluster.now = c.requires.cluster in
    let tags : c.args.cluster.now.tags.items ≡ filter (is_of_two rows ties c.args.bad.0 c.args.good.0) (range_with_len 0 (length of_tags)) = rw (← c.self.view_is) at cluster.tags in
    let numbers : c.args.cluster.now.rows.items ≡ filter (λ n. is_of_two rows ties c.args.bad.0 c.args.good.0 (get_or rows n no_row).first.0) (range_with_len 0 (length rows)) = rw (← c.self.view_is) at cluster.rows in
    let len : length of_rows ≡ length rows = rows-len rows ties of_tags of_rows c.self.invariant c.args.bad.0 c.args.good.0 in
    subst (λ m. All (λ n. n < m) c.as_slice-2.result.now) (sym len)
    (subst (All (λ n. n < length rows)) (sym (c.as_slice-2.ensures.value ∙ numbers)) (passed-below (λ n. is_of_two rows ties c.args.bad.0 c.args.good.0 (get_or rows n no_row).first.0) (length rows)))

pub invariant_of-self : goal.invariant_of-self
invariant_of-self c =
    let s = c.self.inside in
    let rows : List RelationRow = s.pairs.rows in
    let ties = s.ties.rows in
    let of_tags : List ℕ = s.tags.labels in
    let of_rows : List ℕ = s.rows.labels in
    let cluster : IsClusterOf (c.args.self.now) c.args.bad.0 c.args.good.0 c.args.cluster.now = c.requires.cluster in
    let tags : c.args.cluster.now.tags.items ≡ filter (is_of_two rows ties c.args.bad.0 c.args.good.0) (range_with_len 0 (length of_tags)) = rw (← c.self.view_is) at cluster.tags in
    let numbers : c.args.cluster.now.rows.items ≡ filter (λ n. is_of_two rows ties c.args.bad.0 c.args.good.0 (get_or rows n no_row).first.0) (range_with_len 0 (length rows)) = rw (← c.self.view_is) at cluster.rows in
    let label : c.args.cluster.now.label ≡ min (label_of rows ties c.args.bad.0) (label_of rows ties c.args.good.0) = rw (← c.self.view_is) at cluster.label in
    let a : c.args.bad.0 < length of_tags = rw (← c.self.view_is) at c.requires.bad_known in
    let b : c.args.good.0 < length of_tags = rw (← c.self.view_is) at c.requires.good_known in
    let now-is : (k : ℕ) → at c.put_all.new.self.labels k ≡ cond (list_any (λ x. x == k) c.args.cluster.now.tags.items) c.args.cluster.now.label (at of_tags k) =
    λ k. c.put_all.ensures.labels k ∙ ap (λ (l : List ℕ). cond (list_any (λ x. x == k) l) c.args.cluster.now.label (at of_tags k)) c.as_slice.ensures.value in
    let rows-now : (k : ℕ) → at c.put_all-2.new.self.labels k ≡ cond (list_any (λ x. x == k) c.args.cluster.now.rows.items) c.args.cluster.now.label (at of_rows k) =
    λ k. c.put_all-2.ensures.labels k ∙ ap (λ (l : List ℕ). cond (list_any (λ x. x == k) l) c.args.cluster.now.label (at of_rows k)) c.as_slice-2.ensures.value in
    let row : RelationRow = record { service = c.args.service; first = c.args.bad; second = c.args.good; standing = true } in
    subst (λ l. AreClustered c.push-2.new.self.rows ties c.put_all.new.self.labels l) (sym c.push.ensures.labels)
    (subst (λ l. AreClustered l ties c.put_all.new.self.labels (c.put_all-2.new.self.labels ++ c.args.cluster.now.label ∷ [])) (sym c.push-2.ensures.rows)
    (clustered-add rows ties of_tags of_rows c.self.invariant c.args.bad.0 c.args.good.0 a b c.args.cluster.now.label c.args.cluster.now.tags.items c.args.cluster.now.rows.items c.put_all.new.self.labels c.put_all-2.new.self.labels label tags numbers now-is rows-now c.put_all-2.ensures.len c.put_all.ensures.len row refl refl))

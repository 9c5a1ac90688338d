use Rattle.std.proofs.Common.{◌≡◌, ◌∙◌, ◌<◌, ◌≤◌, ◌+◌, ◌*◌, ℕ, List, length, map, true, subst, sym, ap, arith}
use Rattle.media_types.specs.declared.numbers.TagNo.{TagNo}
use Rattle.parent_closure.specs.CountLaws.{AreDifferent, picked-different}
use Rattle.parent_closure.specs.LimitLaws.{AreBelow, new-ancestors}
use Rattle.parent_closure.specs.Reached.{has}
use Rattle.parent_closure.specs.Sets.{IsClosedFor}
use Rattle.sibling_chains.specs.Clusters.{rows_within}
use Rattle.sibling_chains.specs.Known.{is_in_two}
use Rattle.tag_relations.specs.Related.{Related, relations_at}
use Rattle.tag_relations.proofs.Planned.{cluster-closed, cluster-has, cluster-reads}
use Rattle.tag_relations.proofs.relations.TagRelations.ancestors.Goals as goal

pub returns-then-tag-tags-clause-told : goal.returns-then-tag-tags-clause-told
returns-then-tag-tags-clause-told g c =
    let past : c.args.self.now.siblings.tags ≤ c.args.tag.0 = omega (arith, c.if-tag-tags.true, c.tags.ensures.tags) in
    ap (map (λ (t : TagNo). t.0)) c.new.ensures
    ∙ sym (new-ancestors c.args.self.now.siblings.tags c.args.end (relations_at c.args.self.now c.args.service.0) c.tags.ensures.siblings c.tags.ensures.parents c.args.tag.0 past)

pub ancestors-requires-clause-different : goal.ancestors-requires-clause-different
ancestors-requires-clause-different g c =
    let v = c.self.inside.siblings in
    subst AreDifferent (sym (c.as_slice.ensures.value ∙ c.in_ok-tags.ensures.tags)) (picked-different (is_in_two v c.args.tag.0 c.args.tag.0) v.tags)

pub ancestors-requires-clause-here : goal.ancestors-requires-clause-here
ancestors-requires-clause-here g c =
    let o : Related = record { siblings = c.self.inside.siblings; parents = c.self.inside.parents } in
    let known : AreBelow o.siblings.tags o.siblings.rows = rw (← c.self.view_is) at c.tags.ensures.siblings in
    let also : AreBelow o.siblings.tags o.parents.rows = rw (← c.self.view_is) at c.tags.ensures.parents in
    let count : c.tags.result ≡ o.siblings.tags = rw (← c.self.view_is) at c.tags.ensures.tags in
    let lt : c.args.tag.0 < o.siblings.tags = omega (arith, c.if-tag-tags.false, count) in
    subst (λ (list : List ℕ). has list c.args.tag.0 ≡ true) (sym (c.as_slice.ensures.value ∙ c.in_ok-tags.ensures.tags)) (cluster-has o c.self.invariant known also c.args.tag.0 lt)

pub ancestors-requires-clause-closed : goal.ancestors-requires-clause-closed
ancestors-requires-clause-closed g c =
    let o : Related = record { siblings = c.self.inside.siblings; parents = c.self.inside.parents } in
    let known : AreBelow o.siblings.tags o.siblings.rows = rw (← c.self.view_is) at c.tags.ensures.siblings in
    let also : AreBelow o.siblings.tags o.parents.rows = rw (← c.self.view_is) at c.tags.ensures.parents in
    let count : c.tags.result ≡ o.siblings.tags = rw (← c.self.view_is) at c.tags.ensures.tags in
    let lt : c.args.tag.0 < o.siblings.tags = omega (arith, c.if-tag-tags.false, count) in
    subst (λ (list : List ℕ). IsClosedFor (has list) (relations_at o c.args.service.0)) (sym (c.as_slice.ensures.value ∙ c.in_ok-tags.ensures.tags))
    (cluster-closed o c.self.invariant known also c.args.tag.0 lt c.args.service.0)

pub returns-clause-reads : goal.returns-clause-reads
returns-clause-reads g c =
    let o : Related = record { siblings = c.self.inside.siblings; parents = c.self.inside.parents } in
    let known : AreBelow o.siblings.tags o.siblings.rows = rw (← c.self.view_is) at c.tags.ensures.siblings in
    let also : AreBelow o.siblings.tags o.parents.rows = rw (← c.self.view_is) at c.tags.ensures.parents in
    let count : c.tags.result ≡ o.siblings.tags = rw (← c.self.view_is) at c.tags.ensures.tags in
    let lt : c.args.tag.0 < o.siblings.tags = omega (arith, c.if-tag-tags.false, count) in
    let later = subst (λ (list : List ℕ). c.ancestors.new.steps ≤ c.tags_of_two.new.steps + (length list + 2 * length (rows_within (has list) o.parents.rows))) (c.as_slice.ensures.value ∙ c.in_ok-tags.ensures.tags) c.ancestors.ensures.reads in
    rw (← c.self.view_is) (cluster-reads o c.self.invariant known also c.args.tag.0 lt c.args.steps.now c.tags_of_two.new.steps c.ancestors.new.steps c.tags_of_two.ensures.steps later)

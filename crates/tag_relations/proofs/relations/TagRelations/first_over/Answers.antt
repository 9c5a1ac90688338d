use Rattle.std.proofs.Common.{◌≡◌, ◌∙◌, ◌<◌, ℕ, Some, length, ap, sym, arith}
use Rattle.media_types.specs.declared.numbers.TagNo.{TagNo}
use Rattle.parent_closure.specs.Ancestors.{Relations, is_over}
use Rattle.parent_closure.specs.Limits.{over_in}
use Rattle.std.specs.Prelude.{find}
use Rattle.std.specs.Option.{option_map}
use Rattle.tag_relations.specs.Planning.{after}
use Rattle.tag_relations.specs.Related.{relations_at}
use Rattle.tag_relations.proofs.Walking.{first-found}
use Rattle.tag_relations.proofs.relations.TagRelations.first_over.Goals as goal

pub returns-in-Some-clause-first : goal.returns-in-Some-clause-first
returns-in-Some-clause-first g c =
    let R : ℕ → Relations = relations_at (after c.args.plan.now c.args.self.now) in
    let tags = c.args.plan.now.touched.items in
    let n = c.loop-number.number in
    let tag = c.in-Some.tag in
    let found : find (is_over c.args.end (R n)) tags ≡ Some tag.0 = sym c.in_ok-over.ensures.first ∙ ap (option_map (λ (t : TagNo). t.0)) c.in-Some.is in
    let end : c.services-number-end.result ≡ length c.args.self.now.siblings.orders = rw (← c.self.view_is) c.services-number-end.ensures in
    let lt : n < length c.args.self.now.siblings.orders = omega (arith, end, c.loop-number-test.true) in
    sym (first-found (over_in c.args.end R tags) n (length c.args.self.now.siblings.orders) (n, tag.0) lt c.loop-number.invariant.none (ap (option_map (λ (t : ℕ). (n, t))) found))

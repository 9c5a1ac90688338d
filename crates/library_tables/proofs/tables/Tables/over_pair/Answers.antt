use Rattle.std.proofs.Common.{◌≡◌, ◌∙◌, ◌<◌, ◌≤◌, ◌+◌, ◌*◌, ℕ, Some, None, option_map, length, ap, subst, sym}
use Rattle.media_base.specs.declared.change.TagPair.{TagPair}
use Rattle.media_base.specs.declared.refusal.Unmet.TheVariants as whys
use Rattle.media_types.specs.declared.numbers.ServiceNo.{ServiceNo}
use Rattle.media_types.specs.declared.numbers.TagNo.{TagNo}
use Rattle.tag_relations.specs.declared.plans.RelationPlan.{RelationPlan}
use Rattle.tag_relations.specs.Work.{cluster_work}
use Rattle.library_machine.specs.Records.{too_many}
use Rattle.library_machine.specs.Relating.{text_of, with_both}
use Rattle.library_tables.specs.Relations.{IsTouching, over_told, planned_records}
use Rattle.library_tables.specs.Tables.{TablesView}
use Rattle.library_tables.proofs.Implying.{found_is, found_reads, over_below, told_none, told_some}
use Rattle.library_tables.proofs.tables.Tables.over_pair.Goals as goal

abbrev IsTouching_at : RelationPlan → TagPair → ℕ → ℕ → TablesView → Type 0
IsTouching_at plan pair a b t = IsTouching plan pair t a b

pub returns-in_err-over-clause-reads : goal.returns-in_err-over-clause-reads
returns-in_err-over-clause-reads g c = λ a b touching.
    let view : TablesView = record { files = c.self.inside.files; book = c.self.inside.book; groups = c.self.inside.groups; tree = c.self.inside.tree; pairs = c.self.inside.pairs; work = c.self.inside.upkeep; distance = c.self.inside.distance; tags = c.self.inside.tags; services = c.self.inside.services; mappings = c.self.inside.mappings; relations = c.self.inside.relations } in
    let here : IsTouching c.args.plan.now c.args.pair.now view a b = subst (IsTouching_at c.args.plan.now c.args.pair.now a b) (sym c.self.view_is) touching in
    let reads = found_reads view c.args.plan.now c.args.pair.now a b c.args.steps.now c.first_over.new.steps c.self.invariant here c.first_over.ensures.reads in
    subst (λ (t : TablesView). c.first_over.new.steps ≤ c.args.steps.now + 16 * cluster_work t.relations.siblings.rows t.relations.parents.rows t.relations.siblings.tags a b) c.self.view_is reads

pub text_with-requires : goal.text_with-requires
text_with-requires g c =
    let view : TablesView = record { files = c.self.inside.files; book = c.self.inside.book; groups = c.self.inside.groups; tree = c.self.inside.tree; pairs = c.self.inside.pairs; work = c.self.inside.upkeep; distance = c.self.inside.distance; tags = c.self.inside.tags; services = c.self.inside.services; mappings = c.self.inside.mappings; relations = c.self.inside.relations } in
    let plan = c.args.plan.now in
    let pair = c.args.pair.now in
    let touching : (a b : ℕ) × IsTouching plan pair view a b = subst (λ (t : TablesView). (a b : ℕ) × IsTouching plan pair t a b) (sym c.self.view_is) c.requires in
    let end : c.tags_with-end.result ≡ length (with_both view.tags.texts pair.first pair.second) = rw (← c.self.view_is) at c.tags_with-end.ensures in
    let found = found_is view plan pair c.tags_with-end.result c.in_ok-over.over c.self.invariant touching end c.in_ok-over.ensures.first in
    let over : c.in_ok-over.over ≡ Some (c.in-Some.service, c.in-Some.tag) = c.in-Some.is in
    let is : too_many (planned_records view plan pair) ≡ Some (c.in-Some.service.0, c.in-Some.tag.0) =
    sym found ∙ ap (option_map (λ (found : ServiceNo × TagNo). (found.0.0, found.1.0))) over in
    subst (λ (t : TablesView). c.in-Some.tag.0 < length (with_both t.tags.texts pair.first pair.second)) c.self.view_is (over_below (planned_records view plan pair) c.in-Some.service.0 c.in-Some.tag.0 is)

pub returns-in_err-copied-in-Some-clause-reads : goal.returns-in_err-copied-in-Some-clause-reads
returns-in_err-copied-in-Some-clause-reads g c = λ a b touching.
    let view : TablesView = record { files = c.self.inside.files; book = c.self.inside.book; groups = c.self.inside.groups; tree = c.self.inside.tree; pairs = c.self.inside.pairs; work = c.self.inside.upkeep; distance = c.self.inside.distance; tags = c.self.inside.tags; services = c.self.inside.services; mappings = c.self.inside.mappings; relations = c.self.inside.relations } in
    let here : IsTouching c.args.plan.now c.args.pair.now view a b = subst (IsTouching_at c.args.plan.now c.args.pair.now a b) (sym c.self.view_is) touching in
    let reads = found_reads view c.args.plan.now c.args.pair.now a b c.args.steps.now c.first_over.new.steps c.self.invariant here c.first_over.ensures.reads in
    subst (λ (t : TablesView). c.first_over.new.steps ≤ c.args.steps.now + 16 * cluster_work t.relations.siblings.rows t.relations.parents.rows t.relations.siblings.tags a b) c.self.view_is reads

pub returns-in_ok-copied-in-Some-clause-reads : goal.returns-in_ok-copied-in-Some-clause-reads
returns-in_ok-copied-in-Some-clause-reads g c = λ a b touching.
    let view : TablesView = record { files = c.self.inside.files; book = c.self.inside.book; groups = c.self.inside.groups; tree = c.self.inside.tree; pairs = c.self.inside.pairs; work = c.self.inside.upkeep; distance = c.self.inside.distance; tags = c.self.inside.tags; services = c.self.inside.services; mappings = c.self.inside.mappings; relations = c.self.inside.relations } in
    let here : IsTouching c.args.plan.now c.args.pair.now view a b = subst (IsTouching_at c.args.plan.now c.args.pair.now a b) (sym c.self.view_is) touching in
    let reads = found_reads view c.args.plan.now c.args.pair.now a b c.args.steps.now c.first_over.new.steps c.self.invariant here c.first_over.ensures.reads in
    subst (λ (t : TablesView). c.first_over.new.steps ≤ c.args.steps.now + 16 * cluster_work t.relations.siblings.rows t.relations.parents.rows t.relations.siblings.tags a b) c.self.view_is reads

pub returns-in-None-clause-reads : goal.returns-in-None-clause-reads
returns-in-None-clause-reads g c = λ a b touching.
    let view : TablesView = record { files = c.self.inside.files; book = c.self.inside.book; groups = c.self.inside.groups; tree = c.self.inside.tree; pairs = c.self.inside.pairs; work = c.self.inside.upkeep; distance = c.self.inside.distance; tags = c.self.inside.tags; services = c.self.inside.services; mappings = c.self.inside.mappings; relations = c.self.inside.relations } in
    let here : IsTouching c.args.plan.now c.args.pair.now view a b = subst (IsTouching_at c.args.plan.now c.args.pair.now a b) (sym c.self.view_is) touching in
    let reads = found_reads view c.args.plan.now c.args.pair.now a b c.args.steps.now c.first_over.new.steps c.self.invariant here c.first_over.ensures.reads in
    subst (λ (t : TablesView). c.first_over.new.steps ≤ c.args.steps.now + 16 * cluster_work t.relations.siblings.rows t.relations.parents.rows t.relations.siblings.tags a b) c.self.view_is reads

pub returns-in_ok-copied-in-Some-clause-told : goal.returns-in_ok-copied-in-Some-clause-told
returns-in_ok-copied-in-Some-clause-told g c =
    let view : TablesView = record { files = c.self.inside.files; book = c.self.inside.book; groups = c.self.inside.groups; tree = c.self.inside.tree; pairs = c.self.inside.pairs; work = c.self.inside.upkeep; distance = c.self.inside.distance; tags = c.self.inside.tags; services = c.self.inside.services; mappings = c.self.inside.mappings; relations = c.self.inside.relations } in
    let plan = c.args.plan.now in
    let pair = c.args.pair.now in
    let touching : (a b : ℕ) × IsTouching plan pair view a b = subst (λ (t : TablesView). (a b : ℕ) × IsTouching plan pair t a b) (sym c.self.view_is) c.requires in
    let end : c.tags_with-end.result ≡ length (with_both view.tags.texts pair.first pair.second) = rw (← c.self.view_is) at c.tags_with-end.ensures in
    let found = found_is view plan pair c.tags_with-end.result c.in_ok-over.over c.self.invariant touching end c.in_ok-over.ensures.first in
    let over : c.in_ok-over.over ≡ Some (c.in-Some.service, c.in-Some.tag) = c.in-Some.is in
    let is : too_many (planned_records view plan pair) ≡ Some (c.in-Some.service.0, c.in-Some.tag.0) =
    sym found ∙ ap (option_map (λ (found : ServiceNo × TagNo). (found.0.0, found.1.0))) over in
    let shown : c.text_with.result.now ≡ text_of (planned_records view plan pair) c.in-Some.tag.0 = rw (← c.self.view_is) at c.text_with.ensures in
    let text = c.in_ok-copied-in-Some.ensures ∙ shown in
    let done = told_some (planned_records view plan pair) c.in-Some.service c.in-Some.tag c.in_ok-copied-in-Some.field-0 is text in
    subst (λ (t : TablesView). Some (whys.TooManyImplied c.in-Some.service c.in_ok-copied-in-Some.field-0) ≡ over_told (planned_records t plan pair)) c.self.view_is done

pub returns-in-None-clause-told : goal.returns-in-None-clause-told
returns-in-None-clause-told g c =
    let view : TablesView = record { files = c.self.inside.files; book = c.self.inside.book; groups = c.self.inside.groups; tree = c.self.inside.tree; pairs = c.self.inside.pairs; work = c.self.inside.upkeep; distance = c.self.inside.distance; tags = c.self.inside.tags; services = c.self.inside.services; mappings = c.self.inside.mappings; relations = c.self.inside.relations } in
    let plan = c.args.plan.now in
    let pair = c.args.pair.now in
    let touching : (a b : ℕ) × IsTouching plan pair view a b = subst (λ (t : TablesView). (a b : ℕ) × IsTouching plan pair t a b) (sym c.self.view_is) c.requires in
    let end : c.tags_with-end.result ≡ length (with_both view.tags.texts pair.first pair.second) = rw (← c.self.view_is) at c.tags_with-end.ensures in
    let found = found_is view plan pair c.tags_with-end.result c.in_ok-over.over c.self.invariant touching end c.in_ok-over.ensures.first in
    let is : too_many (planned_records view plan pair) ≡ None = sym found ∙ ap (option_map (λ (found : ServiceNo × TagNo). (found.0.0, found.1.0))) c.in-None.is in
    subst (λ (t : TablesView). None ≡ over_told (planned_records t plan pair)) c.self.view_is (told_none (planned_records view plan pair) is)

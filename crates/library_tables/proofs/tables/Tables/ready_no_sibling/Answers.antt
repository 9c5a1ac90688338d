use Rattle.std.proofs.Common.{◌≡◌, ◌∙◌, ◌<◌, ℕ, ap, subst, sym}
use Rattle.media_base.specs.declared.reply.PairTags.{PairTags}
use Rattle.sibling_chains.specs.Known.{tags_of_two}
use Rattle.sibling_chains.specs.Recorded.{removed_at, standing_place}
use Rattle.library_machine.specs.Records.{Fits, Records}
use Rattle.library_machine.specs.Relating.{pair_tags}
use Rattle.library_tables.specs.Tables.{TablesView, records_of}
use Rattle.library_tables.proofs.Implying.{planned_is, tags_below, tags_few, touching_known}
use Rattle.library_tables.proofs.Pairing.{both_known}
use Rattle.library_tables.proofs.tables.Tables.ready_no_sibling.Goals as goal

pub reserve_pair-requires-clause-first : goal.reserve_pair-requires-clause-first
reserve_pair-requires-clause-first g c =
    let r = records_of c.args.self.now in
    let fits : Fits r = c.pair_tags-tags.ensures.fits in
    (tags_below r c.args.pair.now c.pair_tags-tags.result c.pair_tags-tags.ensures.tags (tags_few r c.args.pair.now fits c.requires.first c.requires.second)).0

pub reserve_pair-requires-clause-second : goal.reserve_pair-requires-clause-second
reserve_pair-requires-clause-second g c =
    let r = records_of c.args.self.now in
    let fits : Fits r = c.pair_tags-tags.ensures.fits in
    (tags_below r c.args.pair.now c.pair_tags-tags.result c.pair_tags-tags.ensures.tags (tags_few r c.args.pair.now fits c.requires.first c.requires.second)).1

pub returns-clause-touching : goal.returns-clause-touching
returns-clause-touching g c =
    let plan = c.in_ok-plan.plan in
    let view : TablesView = record { files = c.self.inside.files; book = c.self.inside.book; groups = c.self.inside.groups; tree = c.self.inside.tree; pairs = c.self.inside.pairs; work = c.self.inside.upkeep; distance = c.self.inside.distance; tags = c.self.inside.tags; services = c.self.inside.services; mappings = c.self.inside.mappings; relations = c.self.inside.relations } in
    let new : TablesView = record view { relations = c.plan_no_sibling.new.self } in
    let r = records_of c.args.self.now in
    let before : records_of view ≡ r = subst (λ (t : TablesView). records_of t ≡ r) (sym c.self.view_is) c.reserve_pair.ensures.records in
    let same = c.plan_no_sibling.ensures.same in
    let after : records_of new ≡ r = rw (same.siblings.rows, same.parents.rows) before in
    let a : c.pair_tags-tags.result.first.0 ≡ (pair_tags r c.args.pair.now).first.0 = ap (λ (tags : PairTags). tags.first.0) c.pair_tags-tags.ensures.tags in
    let there : c.pair_tags-tags.result.first.0 < c.plan_no_sibling.new.self.siblings.tags =
    rw same.siblings.tags (subst (λ (t : TablesView). c.pair_tags-tags.result.first.0 < t.relations.siblings.tags) (sym c.self.view_is) c.in_ok-reserve_pair.ensures.first) in
    let known : (pair_tags r c.args.pair.now).first.0 < c.plan_no_sibling.new.self.siblings.tags = subst (λ (n : ℕ). n < c.plan_no_sibling.new.self.siblings.tags) a there in
    touching_known new r c.args.pair.now plan after c.requires.first c.requires.second c.in_ok-plan.ensures.fits
    (c.in_ok-plan.ensures.touched ∙ ap (λ (n : ℕ). tags_of_two c.plan_no_sibling.new.self.siblings n n) a) known

pub returns-clause-leads : goal.returns-clause-leads
returns-clause-leads g c =
    let plan = c.in_ok-plan.plan in
    let view : TablesView = record { files = c.self.inside.files; book = c.self.inside.book; groups = c.self.inside.groups; tree = c.self.inside.tree; pairs = c.self.inside.pairs; work = c.self.inside.upkeep; distance = c.self.inside.distance; tags = c.self.inside.tags; services = c.self.inside.services; mappings = c.self.inside.mappings; relations = c.self.inside.relations } in
    let new : TablesView = record view { relations = c.plan_no_sibling.new.self } in
    let r = records_of c.args.self.now in
    let before : records_of view ≡ r = subst (λ (t : TablesView). records_of t ≡ r) (sym c.self.view_is) c.reserve_pair.ensures.records in
    let same = c.plan_no_sibling.ensures.same in
    let after : records_of new ≡ r = rw (same.siblings.rows, same.parents.rows) before in
    let both = both_known r c.args.pair.now.first c.args.pair.now.second c.requires.first c.requires.second in
    let siblings = c.in_ok-plan.ensures.siblings in
    let parents = c.in_ok-plan.ensures.parents in
    let a : c.pair_tags-tags.result.first.0 ≡ (pair_tags r c.args.pair.now).first.0 = ap (λ (tags : PairTags). tags.first.0) c.pair_tags-tags.ensures.tags in
    let s = c.args.pair.now.service.0 in
    planned_is new r c.args.pair.now plan r.tags (removed_at (standing_place s (pair_tags r c.args.pair.now).first.0 r.siblings) r.siblings) r.parents after both
    (siblings ∙ ap (λ (n : ℕ). removed_at (standing_place s n c.self.inside.relations.siblings.rows) c.self.inside.relations.siblings.rows) a
    ∙ ap (λ (x : Records). removed_at (standing_place s (pair_tags r c.args.pair.now).first.0 x.siblings) x.siblings) before)
    (parents ∙ ap (λ (x : Records). x.parents) before)

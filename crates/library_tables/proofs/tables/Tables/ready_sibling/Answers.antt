use Rattle.std.proofs.Common.{◌≡◌, ◌∙◌, ◌<◌, ap, subst, sym}
use Rattle.media_base.specs.declared.reply.PairTags.{PairTags}
use Rattle.sibling_chains.specs.Following.{good_of}
use Rattle.sibling_chains.specs.Recorded.{pairs_of}
use Rattle.library_machine.specs.Records.{Fits, Records}
use Rattle.library_machine.specs.RelatedLaws.{none_stands}
use Rattle.library_tables.specs.Tables.{TablesView, records_of}
use Rattle.library_tables.proofs.Implying.{tags_below, touching_new}
use Rattle.library_tables.proofs.tables.Tables.ready_sibling.Goals as goal

pub reserve_pair-requires-clause-first : goal.reserve_pair-requires-clause-first
reserve_pair-requires-clause-first g c = (tags_below (records_of c.args.self.now) c.args.pair.now c.args.tags c.requires.tags c.requires.few).0

pub reserve_pair-requires-clause-second : goal.reserve_pair-requires-clause-second
reserve_pair-requires-clause-second g c = (tags_below (records_of c.args.self.now) c.args.pair.now c.args.tags c.requires.tags c.requires.few).1

pub plan_sibling-requires-clause-new : goal.plan_sibling-requires-clause-new
plan_sibling-requires-clause-new g c =
    let view : TablesView = record { files = c.self.inside.files; book = c.self.inside.book; groups = c.self.inside.groups; tree = c.self.inside.tree; pairs = c.self.inside.pairs; work = c.self.inside.upkeep; distance = c.self.inside.distance; tags = c.self.inside.tags; services = c.self.inside.services; mappings = c.self.inside.mappings; relations = c.self.inside.relations } in
    let r = records_of c.args.self.now in
    let same : records_of view ≡ r = subst (λ (t : TablesView). records_of t ≡ r) (sym c.self.view_is) c.reserve_pair.ensures.records in
    let fits : Fits r = subst Fits same c.self.invariant.fits in
    let none = none_stands r c.args.pair.now.service c.args.pair.now.first fits.siblings c.requires.new in
    ap (λ (r : Records). good_of (pairs_of r.siblings c.args.pair.now.service) c.args.tags.first.0) same
    ∙ ap (λ (tags : PairTags). good_of (pairs_of r.siblings c.args.pair.now.service) tags.first.0) c.requires.tags ∙ none

pub returns-clause-touching : goal.returns-clause-touching
returns-clause-touching g c =
    let plan = c.in_ok-plan.plan in
    let view : TablesView = record { files = c.self.inside.files; book = c.self.inside.book; groups = c.self.inside.groups; tree = c.self.inside.tree; pairs = c.self.inside.pairs; work = c.self.inside.upkeep; distance = c.self.inside.distance; tags = c.self.inside.tags; services = c.self.inside.services; mappings = c.self.inside.mappings; relations = c.self.inside.relations } in
    let new : TablesView = record view { relations = c.plan_sibling.new.self } in
    let r = records_of c.args.self.now in
    let before : records_of view ≡ r = subst (λ (t : TablesView). records_of t ≡ r) (sym c.self.view_is) c.reserve_pair.ensures.records in
    let same = c.plan_sibling.ensures.same in
    let after : records_of new ≡ r = rw (same.siblings.rows, same.parents.rows) before in
    let known_a : c.args.tags.first.0 < c.plan_sibling.new.self.siblings.tags = rw same.siblings.tags (subst (λ (t : TablesView). c.args.tags.first.0 < t.relations.siblings.tags) (sym c.self.view_is) c.in_ok-reserve_pair.ensures.first) in
    let known_b : c.args.tags.second.0 < c.plan_sibling.new.self.siblings.tags = rw same.siblings.tags (subst (λ (t : TablesView). c.args.tags.second.0 < t.relations.siblings.tags) (sym c.self.view_is) c.in_ok-reserve_pair.ensures.second) in
    touching_new new r c.args.pair.now c.args.tags plan after c.requires.tags c.in_ok-plan.ensures.fits c.in_ok-plan.ensures.touched known_a known_b

use Rattle.std.proofs.Common.{◌≡◌, ◌∙◌, ℕ, true, false, Err, List, length, nat_le, rules, arith, ap, subst, sym}
use Rattle.media_base.specs.declared.change.Change.TheVariants as changes
use Rattle.media_base.specs.declared.refusal.Unmet.TheVariants as whys
use Rattle.library_machine.specs.Needs.{has_service, is_met, room_for_tags}
use Rattle.library_machine.specs.Records.{Records}
use Rattle.library_machine.specs.Relating.{has_parent}
use Rattle.library_tables.specs.declared.plan.Prepared.{Prepared}
use Rattle.library_tables.specs.Preparing.{IsPrepared}
use Rattle.library_tables.specs.Tables.{TablesView, records_of}
use Rattle.tag_types.specs.declared.limits.TheConstants.{MAX_RELATIONS}
use Rattle.library_tables.proofs.Reading.{parent_looked, parent_read}
use Rattle.library_tables.proofs.Settling.{place_left, parent_settled}
use Rattle.library_tables.proofs.ParentChanges.{added_known, added_no_service, added_no_tags}
use Rattle.library_tables.proofs.tables.Tables.plan_parent.Goals as goal

pub returns-then-not-has_service-clause-prepared : goal.returns-then-not-has_service-clause-prepared
returns-then-not-has_service-clause-prepared g c =
    let r = records_of c.args.self.now in
    let pair = c.args.pair.now in
    let none : has_service r pair.service ≡ false = search rules in
    subst (λ (prepared : Prepared). IsPrepared (changes.ParentAdded pair) c.args.self.now prepared) (sym c.into.ensures) (added_no_service r pair none)

pub returns-then-has_parent-clause-prepared : goal.returns-then-has_parent-clause-prepared
returns-then-has_parent-clause-prepared g c =
    let r = records_of c.args.self.now in
    let pair = c.args.pair.now in
    let service : has_service r pair.service ≡ true = search rules in
    let stands : has_parent r pair ≡ true = search rules in
    let text : c.in_ok-copied.field-0 ≡ pair.second = c.in_ok-copied.ensures in
    subst (λ (prepared : Prepared). IsPrepared (changes.ParentAdded pair) c.args.self.now prepared) (sym c.into-then-has_parent.ensures)
    (added_known r pair service stands ∙ ap (λ (text : List ℕ). Err (whys.PairKnown text)) (sym text))

pub returns-then-not-has_room_for_tags-clause-prepared : goal.returns-then-not-has_room_for_tags-clause-prepared
returns-then-not-has_room_for_tags-clause-prepared g c =
    let r = records_of c.args.self.now in
    let pair = c.args.pair.now in
    let service : has_service r pair.service ≡ true = search rules in
    let told : has_parent r pair ≡ false = search rules in
    let full : is_met r (room_for_tags pair.first pair.second) ≡ false = search rules in
    subst (λ (prepared : Prepared). IsPrepared (changes.ParentAdded pair) c.args.self.now prepared) (sym c.into-then-not-has_room_for_tags.ensures) (added_no_tags r pair service told full)

pub returns-in_err-copied-clause-reads : goal.returns-in_err-copied-clause-reads
returns-in_err-copied-clause-reads g c =
    let r = records_of c.args.self.now in
    let pair = c.args.pair.now in
    parent_looked r pair c.has_parent.ensures.fits c.args.steps.now c.has_parent.new.steps c.args.self.now.relations.siblings.tags c.has_parent.ensures.reads

pub returns-then-has_parent-clause-reads : goal.returns-then-has_parent-clause-reads
returns-then-has_parent-clause-reads g c =
    let r = records_of c.args.self.now in
    let pair = c.args.pair.now in
    parent_looked r pair c.has_parent.ensures.fits c.args.steps.now c.has_parent.new.steps c.args.self.now.relations.siblings.tags c.has_parent.ensures.reads

pub returns-then-not-has_room_for_tags-clause-reads : goal.returns-then-not-has_room_for_tags-clause-reads
returns-then-not-has_room_for_tags-clause-reads g c =
    let r = records_of c.args.self.now in
    let pair = c.args.pair.now in
    parent_looked r pair c.has_parent.ensures.fits c.args.steps.now c.has_parent.new.steps c.args.self.now.relations.siblings.tags c.has_parent.ensures.reads

pub returns-in_err-plan-clause-reads : goal.returns-in_err-plan-clause-reads
returns-in_err-plan-clause-reads g c =
    let r = records_of c.args.self.now in
    let pair = c.args.pair.now in
    parent_read r pair c.pair_tags-tags.ensures.fits c.args.steps.now c.has_parent.new.steps c.ready_parent.new.self c.ready_parent.ensures.records c.ready_parent.new.steps c.ready_parent.new.steps
    c.args.self.now.relations.siblings.tags c.pair_tags-tags.result c.pair_tags-tags.ensures.tags c.has_parent.ensures.reads c.ready_parent.ensures.reads (omega arith)

pub returns-in_err-outcome-clause-reads : goal.returns-in_err-outcome-clause-reads
returns-in_err-outcome-clause-reads g c =
    let r = records_of c.args.self.now in
    let pair = c.args.pair.now in
    parent_read r pair c.pair_tags-tags.ensures.fits c.args.steps.now c.has_parent.new.steps c.ready_parent.new.self c.ready_parent.ensures.records c.ready_parent.new.steps c.settle_pair.new.steps
    c.args.self.now.relations.siblings.tags c.pair_tags-tags.result c.pair_tags-tags.ensures.tags c.has_parent.ensures.reads c.ready_parent.ensures.reads (c.settle_pair.ensures.reads c.pair_tags-tags.result.first.0 c.pair_tags-tags.result.second.0 c.in_ok-plan.ensures.touching)

pub returns-clause-reads : goal.returns-clause-reads
returns-clause-reads g c =
    let r = records_of c.args.self.now in
    let pair = c.args.pair.now in
    parent_read r pair c.pair_tags-tags.ensures.fits c.args.steps.now c.has_parent.new.steps c.ready_parent.new.self c.ready_parent.ensures.records c.ready_parent.new.steps c.settle_pair.new.steps
    c.args.self.now.relations.siblings.tags c.pair_tags-tags.result c.pair_tags-tags.ensures.tags c.has_parent.ensures.reads c.ready_parent.ensures.reads (c.settle_pair.ensures.reads c.pair_tags-tags.result.first.0 c.pair_tags-tags.result.second.0 c.in_ok-plan.ensures.touching)

pub returns-clause-prepared : goal.returns-clause-prepared
returns-clause-prepared g c =
    let r = records_of c.args.self.now in
    let pair = c.args.pair.now in
    let t : TablesView = c.ready_parent.new.self in
    let service : has_service r pair.service ≡ true = search rules in
    let told : has_parent r pair ≡ false = search rules in
    let room : is_met r (room_for_tags pair.first pair.second) ≡ true = search rules in
    let counted : c.parent_rows_len-full.result ≡ length t.relations.parents.rows = rw (← c.self-2.view_is) c.parent_rows_len-full.ensures.rows in
    let many : c.parent_rows_len-full.result ≡ length r.parents = counted ∙ ap (λ (r : Records). length r.parents) c.ready_parent.ensures.records in
    subst (λ (prepared : Prepared). IsPrepared (changes.ParentAdded pair) t prepared) (sym c.in_ok-outcome.ensures.outcome)
    (parent_settled t r pair c.in_ok-plan.plan c.ready_parent.ensures.records service c.in_ok-plan.ensures.room c.in_ok-plan.ensures.touching.planned c.ready_parent.ensures.fits
    (nat_le MAX_RELATIONS c.parent_rows_len-full.result) c.pair_tags-tags.result c.pair_tags-tags.ensures.tags told room (place_left c.parent_rows_len-full.result (length r.parents) MAX_RELATIONS many) c.in_ok-plan.ensures.leads)

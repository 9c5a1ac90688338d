use Rattle.std.proofs.Common.{◌≡◌, ◌∙◌, true, false, None, Some, length, nat_le, option_map, rules, arith, ap, subst, sym}
use Rattle.media_base.specs.declared.change.Change.TheVariants as changes
use Rattle.library_machine.specs.Needs.{has_service, is_met, room_for_tags}
use Rattle.library_machine.specs.Records.{Records}
use Rattle.library_machine.specs.Relating.{good_number, pair_tags, text_of, with_sibling}
use Rattle.library_tables.specs.declared.plan.Prepared.{Prepared}
use Rattle.library_tables.specs.Preparing.{IsPrepared}
use Rattle.library_tables.specs.Tables.{TablesView, records_of}
use Rattle.tag_types.specs.declared.limits.TheConstants.{MAX_RELATIONS}
use Rattle.library_tables.proofs.Implying.{few_reads}
use Rattle.library_tables.proofs.Reading.{sibling_read}
use Rattle.library_tables.proofs.Settling.{place_left, sibling_settled}
use Rattle.library_tables.proofs.SiblingChanges.{added_known, added_no_service, added_no_tags}
use Rattle.library_tables.proofs.tables.Tables.plan_sibling.Goals as goal

pub returns-then-not-has_service-clause-prepared : goal.returns-then-not-has_service-clause-prepared
returns-then-not-has_service-clause-prepared g c =
    let r = records_of c.args.self.now in
    let pair = c.args.pair.now in
    let none : has_service r pair.service ≡ false = search rules in
    subst (λ (prepared : Prepared). IsPrepared (changes.SiblingAdded pair) c.args.self.now prepared) (sym c.into.ensures) (added_no_service r pair none)

pub returns-in-Some-clause-prepared : goal.returns-in-Some-clause-prepared
returns-in-Some-clause-prepared g c =
    let r = records_of c.args.self.now in
    let pair = c.args.pair.now in
    let service : has_service r pair.service ≡ true = search rules in
    let told : option_map (text_of r) (good_number r pair.service pair.first) ≡ Some c.in_ok-copied.field-0 = search rules in
    subst (λ (prepared : Prepared). IsPrepared (changes.SiblingAdded pair) c.args.self.now prepared) (sym c.into-in-Some.ensures) (added_known r pair c.in_ok-copied.field-0 service told)

pub returns-then-not-has_room_for_tags-clause-prepared : goal.returns-then-not-has_room_for_tags-clause-prepared
returns-then-not-has_room_for_tags-clause-prepared g c =
    let r = records_of c.args.self.now in
    let pair = c.args.pair.now in
    let service : has_service r pair.service ≡ true = search rules in
    let told : option_map (text_of r) (good_number r pair.service pair.first) ≡ None = search rules in
    let full : is_met r (room_for_tags pair.first pair.second) ≡ false = search rules in
    subst (λ (prepared : Prepared). IsPrepared (changes.SiblingAdded pair) c.args.self.now prepared) (sym c.into-then-not-has_room_for_tags.ensures) (added_no_tags r pair service told full)

pub returns-in_err-copied-clause-reads : goal.returns-in_err-copied-clause-reads
returns-in_err-copied-clause-reads g c =
    let r = records_of c.args.self.now in
    let pair = c.args.pair.now in
    few_reads (with_sibling r pair) (pair_tags r pair) c.args.steps.now c.good_text.new.steps c.good_text.ensures.reads

pub returns-in-Some-clause-reads : goal.returns-in-Some-clause-reads
returns-in-Some-clause-reads g c =
    let r = records_of c.args.self.now in
    let pair = c.args.pair.now in
    few_reads (with_sibling r pair) (pair_tags r pair) c.args.steps.now c.good_text.new.steps c.good_text.ensures.reads

pub returns-then-not-has_room_for_tags-clause-reads : goal.returns-then-not-has_room_for_tags-clause-reads
returns-then-not-has_room_for_tags-clause-reads g c =
    let r = records_of c.args.self.now in
    let pair = c.args.pair.now in
    few_reads (with_sibling r pair) (pair_tags r pair) c.args.steps.now c.good_text.new.steps c.good_text.ensures.reads

pub returns-in_err-plan-clause-reads : goal.returns-in_err-plan-clause-reads
returns-in_err-plan-clause-reads g c =
    let r = records_of c.args.self.now in
    let pair = c.args.pair.now in
    sibling_read r pair c.pair_tags-tags.ensures.fits c.args.steps.now c.good_text.new.steps c.ready_sibling.new.self c.ready_sibling.ensures.records c.ready_sibling.new.steps c.ready_sibling.new.steps
    c.pair_tags-tags.result c.pair_tags-tags.ensures.tags c.good_text.ensures.reads c.ready_sibling.ensures.reads (omega arith)

pub returns-in_err-outcome-clause-reads : goal.returns-in_err-outcome-clause-reads
returns-in_err-outcome-clause-reads g c =
    let r = records_of c.args.self.now in
    let pair = c.args.pair.now in
    sibling_read r pair c.pair_tags-tags.ensures.fits c.args.steps.now c.good_text.new.steps c.ready_sibling.new.self c.ready_sibling.ensures.records c.ready_sibling.new.steps c.settle_pair.new.steps
    c.pair_tags-tags.result c.pair_tags-tags.ensures.tags c.good_text.ensures.reads c.ready_sibling.ensures.reads (c.settle_pair.ensures.reads c.pair_tags-tags.result.first.0 c.pair_tags-tags.result.second.0 c.in_ok-plan.ensures.touching)

pub returns-clause-reads : goal.returns-clause-reads
returns-clause-reads g c =
    let r = records_of c.args.self.now in
    let pair = c.args.pair.now in
    sibling_read r pair c.pair_tags-tags.ensures.fits c.args.steps.now c.good_text.new.steps c.ready_sibling.new.self c.ready_sibling.ensures.records c.ready_sibling.new.steps c.settle_pair.new.steps
    c.pair_tags-tags.result c.pair_tags-tags.ensures.tags c.good_text.ensures.reads c.ready_sibling.ensures.reads (c.settle_pair.ensures.reads c.pair_tags-tags.result.first.0 c.pair_tags-tags.result.second.0 c.in_ok-plan.ensures.touching)

pub returns-clause-prepared : goal.returns-clause-prepared
returns-clause-prepared g c =
    let r = records_of c.args.self.now in
    let pair = c.args.pair.now in
    let t : TablesView = c.ready_sibling.new.self in
    let service : has_service r pair.service ≡ true = search rules in
    let told : option_map (text_of r) (good_number r pair.service pair.first) ≡ None = search rules in
    let room : is_met r (room_for_tags pair.first pair.second) ≡ true = search rules in
    let counted : c.sibling_rows_len-full.result ≡ length t.relations.siblings.rows = rw (← c.self-2.view_is) c.sibling_rows_len-full.ensures.rows in
    let many : c.sibling_rows_len-full.result ≡ length r.siblings = counted ∙ ap (λ (r : Records). length r.siblings) c.ready_sibling.ensures.records in
    subst (λ (prepared : Prepared). IsPrepared (changes.SiblingAdded pair) t prepared) (sym c.in_ok-outcome.ensures.outcome)
    (sibling_settled t r pair c.in_ok-plan.plan c.ready_sibling.ensures.records service c.in_ok-plan.ensures.room c.in_ok-plan.ensures.touching.planned c.ready_sibling.ensures.fits
    (nat_le MAX_RELATIONS c.sibling_rows_len-full.result) c.pair_tags-tags.result c.pair_tags-tags.ensures.tags told room (place_left c.sibling_rows_len-full.result (length r.siblings) MAX_RELATIONS many) c.in_ok-plan.ensures.leads)

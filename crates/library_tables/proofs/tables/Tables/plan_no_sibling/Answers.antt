use Rattle.std.proofs.Common.{◌≡◌, ◌&&◌, true, false, rules, arith, subst, sym}
use Rattle.media_base.specs.declared.change.Change.TheVariants as changes
use Rattle.library_machine.specs.Needs.{has_service, has_tag, is_met, pair_stands}
use Rattle.library_machine.specs.Records.{Fits}
use Rattle.library_machine.specs.Relating.{pair_tags, without_sibling}
use Rattle.library_tables.specs.declared.plan.Prepared.{Prepared}
use Rattle.library_tables.specs.Preparing.{IsPrepared}
use Rattle.library_tables.specs.Tables.{TablesView, records_of}
use Rattle.library_tables.proofs.Implying.{few_reads}
use Rattle.library_tables.proofs.Reading.{no_sibling_read}
use Rattle.library_tables.proofs.Settling.{no_sibling_settled}
use Rattle.library_tables.proofs.SiblingChanges.{removed_no_service, removed_no_tag, removed_no_pair}
use Rattle.library_tables.proofs.tables.Tables.plan_no_sibling.Goals as goal
use Rattle.library_tables.proofs.tables.Tables.plan_no_sibling.Goals.{then-not-has_tag-via-then-not-has_tag, then-not-has_tag-via-else-not-has_tag+then-not-has_tag-2}

pub returns-then-not-has_service-clause-prepared : goal.returns-then-not-has_service-clause-prepared
returns-then-not-has_service-clause-prepared g c =
    let r = records_of c.args.self.now in
    let pair = c.args.pair.now in
    let none : has_service r pair.service ≡ false = search rules in
    subst (λ (prepared : Prepared). IsPrepared (changes.SiblingRemoved pair) c.args.self.now prepared) (sym c.into.ensures) (removed_no_service r pair none)

pub returns-then-not-has_tag-clause-prepared : goal.returns-then-not-has_tag-clause-prepared
returns-then-not-has_tag-clause-prepared g c =
    let r = records_of c.args.self.now in
    let pair = c.args.pair.now in
    let service : has_service r pair.service ≡ true = search rules in
    let none : has_tag r pair.first && has_tag r pair.second ≡ false = elim c.then-not-has_tag.branch [
      | then-not-has_tag-via-then-not-has_tag w ↦ search rules
      | then-not-has_tag-via-else-not-has_tag+then-not-has_tag-2 w ↦ search rules
    ] in
    subst (λ (prepared : Prepared). IsPrepared (changes.SiblingRemoved pair) c.args.self.now prepared) (sym c.into-then-not-has_tag.ensures) (removed_no_tag r pair service none)

pub returns-then-not-has_pair-clause-prepared : goal.returns-then-not-has_pair-clause-prepared
returns-then-not-has_pair-clause-prepared g c =
    let r = records_of c.args.self.now in
    let pair = c.args.pair.now in
    let service : has_service r pair.service ≡ true = search rules in
    let first : has_tag r pair.first ≡ true = search rules in
    let second : has_tag r pair.second ≡ true = search rules in
    let none : is_met r (pair_stands pair) ≡ false = search rules in
    subst (λ (prepared : Prepared). IsPrepared (changes.SiblingRemoved pair) c.args.self.now prepared) (sym c.into-then-not-has_pair.ensures) (removed_no_pair r pair service first second none)

pub returns-then-not-has_pair-clause-reads : goal.returns-then-not-has_pair-clause-reads
returns-then-not-has_pair-clause-reads g c =
    let r = records_of c.args.self.now in
    let pair = c.args.pair.now in
    few_reads (without_sibling r pair) (pair_tags r pair) c.args.steps.now c.has_pair.new.steps c.has_pair.ensures.reads

pub returns-in_err-plan-clause-reads : goal.returns-in_err-plan-clause-reads
returns-in_err-plan-clause-reads g c =
    let r = records_of c.args.self.now in
    let pair = c.args.pair.now in
    let first : has_tag r pair.first ≡ true = search rules in
    no_sibling_read r pair (subst Fits c.ready_no_sibling.ensures.records c.ready_no_sibling.ensures.fits) c.args.steps.now c.has_pair.new.steps c.ready_no_sibling.new.self c.ready_no_sibling.ensures.records c.ready_no_sibling.new.steps c.ready_no_sibling.new.steps
    first c.has_pair.ensures.reads c.ready_no_sibling.ensures.reads (omega arith)

pub returns-in_err-outcome-clause-reads : goal.returns-in_err-outcome-clause-reads
returns-in_err-outcome-clause-reads g c =
    let r = records_of c.args.self.now in
    let pair = c.args.pair.now in
    let first : has_tag r pair.first ≡ true = search rules in
    no_sibling_read r pair (subst Fits c.ready_no_sibling.ensures.records c.ready_no_sibling.ensures.fits) c.args.steps.now c.has_pair.new.steps c.ready_no_sibling.new.self c.ready_no_sibling.ensures.records c.ready_no_sibling.new.steps c.settle_pair.new.steps
    first c.has_pair.ensures.reads c.ready_no_sibling.ensures.reads (c.settle_pair.ensures.reads (pair_tags r pair).first.0 (pair_tags r pair).first.0 c.in_ok-plan.ensures.touching)

pub returns-clause-reads : goal.returns-clause-reads
returns-clause-reads g c =
    let r = records_of c.args.self.now in
    let pair = c.args.pair.now in
    let first : has_tag r pair.first ≡ true = search rules in
    no_sibling_read r pair (subst Fits c.ready_no_sibling.ensures.records c.ready_no_sibling.ensures.fits) c.args.steps.now c.has_pair.new.steps c.ready_no_sibling.new.self c.ready_no_sibling.ensures.records c.ready_no_sibling.new.steps c.settle_pair.new.steps
    first c.has_pair.ensures.reads c.ready_no_sibling.ensures.reads (c.settle_pair.ensures.reads (pair_tags r pair).first.0 (pair_tags r pair).first.0 c.in_ok-plan.ensures.touching)

pub returns-clause-prepared : goal.returns-clause-prepared
returns-clause-prepared g c =
    let r = records_of c.args.self.now in
    let pair = c.args.pair.now in
    let t : TablesView = c.ready_no_sibling.new.self in
    let service : has_service r pair.service ≡ true = search rules in
    let first : has_tag r pair.first ≡ true = search rules in
    let second : has_tag r pair.second ≡ true = search rules in
    let stands : is_met r (pair_stands pair) ≡ true = search rules in
    subst (λ (prepared : Prepared). IsPrepared (changes.SiblingRemoved pair) t prepared) (sym c.in_ok-outcome.ensures.outcome)
    (no_sibling_settled t r pair c.in_ok-plan.plan c.ready_no_sibling.ensures.records service c.in_ok-plan.ensures.room c.in_ok-plan.ensures.touching.planned c.ready_no_sibling.ensures.fits
    first second stands c.in_ok-plan.ensures.leads)

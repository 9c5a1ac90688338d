-- What comes of a planned pair is what its change comes to.
use Rattle.std.proofs.Common.{◌≡◌, ◌∙◌, ◌≤◌, ℕ, Bool, true, false, not, Some, None, Ok, Err, Option, nat_le, nat_lt, arith, cond, option_map, [], length, refl, ap, sym, subst}
use Rattle.std.proofs.lemmas.Bool.{leb-true}
use Rattle.std.proofs.lemmas.Bool.Decides.{nat_tests}
use Rattle.media_base.specs.declared.change.Change.{Change}
use Rattle.media_base.specs.declared.change.Change.TheVariants as changes
use Rattle.media_base.specs.declared.change.TagPair.{TagPair}
use Rattle.media_base.specs.declared.refusal.Unmet.{Unmet}
use Rattle.media_base.specs.declared.refusal.Unmet.TheVariants as whys
use Rattle.media_base.specs.declared.reply.Answer.{Answer}
use Rattle.media_base.specs.declared.reply.Answer.TheVariants as answers
use Rattle.media_base.specs.declared.reply.PairTags.{PairTags}
use Rattle.tag_relations.specs.declared.plans.RelationPlan.{RelationPlan}
use Rattle.tag_relations.specs.Planning.{IsPlanFor}
use Rattle.tag_types.specs.declared.limits.TheConstants.{MAX_TAGS}
use Rattle.library_machine.specs.Changing.{answer_to, does}
use Rattle.library_machine.specs.Effects.{effect}
use Rattle.library_machine.specs.Needs.{has_service, has_tag, is_met, pair_stands, room_for_parent, room_for_sibling, room_for_tags}
use Rattle.library_machine.specs.Records.{Fits, Records}
use Rattle.library_machine.specs.Relating.{good_number, has_parent, pair_tags, text_of, with_both, with_parent, with_sibling, without_parent, without_sibling}
use Rattle.library_tables.specs.declared.plan.Prepared.{Prepared}
use Rattle.library_tables.specs.declared.tag_pairs.PlannedPair.{PlannedPair}
use Rattle.library_tables.specs.Preparing.{IsPrepared, pair_outcome, words_brought}
use Rattle.library_tables.specs.Relations.{over_told, planned_records}
use Rattle.library_tables.specs.Tables.{TablesView, records_of}
use Rattle.library_tables.proofs.Implying.{tags_few}
use Rattle.library_tables.proofs.Pairing.{pair_prepared}
use Rattle.library_tables.proofs.ParentChanges as parent
use Rattle.library_tables.proofs.SiblingChanges as sibling

-- there is a place for one more exactly where they aren't full
pub place_left : (n len most : ℕ) → n ≡ len → nat_lt len most ≡ not (nat_le most n)
place_left n len most is = ap (λ (len : ℕ). nat_lt len most) (sym is) ∙ turned n most where
  turned : (n most : ℕ) → nat_lt n most ≡ not (nat_le most n)
  turned n most = grind (arith, nat_tests)

settled : (t : TablesView) (c : Change) (plan : PlannedPair) (full : Bool) (answer : Answer) → length (with_both t.tags.texts plan.pair.first plan.pair.second) ≤ MAX_TAGS → 2 ≤ t.tags.spare
    → IsPlanFor plan.relations t.relations → Fits (records_of t) → planned_records t plan.relations plan.pair ≡ effect (records_of t) c
    → ((why : Unmet) → over_told (effect (records_of t) c) ≡ Some why → does (records_of t) c ≡ Err why)
    → (over_told (effect (records_of t) c) ≡ None → does (records_of t) c ≡ cond full (Err whys.FullRelations) (Ok false))
    → answer_to (records_of t) c ≡ answer → words_brought (records_of t) c ≡ []
    → IsPrepared c t (pair_outcome (over_told (planned_records t plan.relations plan.pair)) full plan answer)
settled t c plan full answer few room planned fits leads over none told brought =
    subst (λ (after : Records). IsPrepared c t (pair_outcome (over_told after) full plan answer)) (sym leads) (by (over_told (effect (records_of t) c)) full refl none)
  where
    by : (found : Option Unmet) (full : Bool) → over_told (effect (records_of t) c) ≡ found → (over_told (effect (records_of t) c) ≡ None → does (records_of t) c ≡ cond full (Err whys.FullRelations) (Ok false))
        → IsPrepared c t (pair_outcome found full plan answer)
    by (Some why) full is none = over why is
    by None true is none = none is
    by None false is none = pair_prepared t c plan answer few room planned fits (none is) told (sym leads) brought

module _ (t : TablesView) (r : Records) (pair : TagPair) (plan : RelationPlan) (same : records_of t ≡ r) (service : has_service r pair.service ≡ true)
    (spare : 2 ≤ t.tags.spare) (planned : IsPlanFor plan t.relations) (fits : Fits (records_of t)) where
  abbrev outcome : Bool → Answer → Prepared
  outcome full answer = pair_outcome (over_told (planned_records t plan pair)) full (record { pair = pair; relations = plan }) answer

  abbrev now : Records
  now = records_of t

  there : has_service now pair.service ≡ true
  there = ap (λ (r : Records). has_service r pair.service) same ∙ service

  pub sibling_settled : (full : Bool) (tags : PairTags) → tags ≡ pair_tags r pair → option_map (text_of r) (good_number r pair.service pair.first) ≡ None
      → is_met r (room_for_tags pair.first pair.second) ≡ true → is_met r room_for_sibling ≡ not full → planned_records t plan pair ≡ with_sibling r pair
      → IsPrepared (changes.SiblingAdded pair) t (outcome full (answers.Sibling tags))
  unfolding effect answer_to
  sibling_settled full tags numbers told room rows leads =
      let fresh : option_map (text_of now) (good_number now pair.service pair.first) ≡ None = ap (λ (r : Records). option_map (text_of r) (good_number r pair.service pair.first)) same ∙ told in
      let place : is_met now (room_for_tags pair.first pair.second) ≡ true = ap (λ (r : Records). is_met r (room_for_tags pair.first pair.second)) same ∙ room in
      let few = leb-true (length (with_both t.tags.texts pair.first pair.second)) MAX_TAGS place in
      let left : is_met now room_for_sibling ≡ not full = ap (λ (r : Records). is_met r room_for_sibling) same ∙ rows in
      settled t (changes.SiblingAdded pair) (record { pair = pair; relations = plan }) full (answers.Sibling tags) few spare planned fits
      (leads ∙ ap (λ (r : Records). with_sibling r pair) (sym same))
      (λ why over. sibling.added_over now pair why there fresh place over)
      (λ none. by full fresh place none left)
      (ap (λ (r : Records). answers.Sibling (pair_tags r pair)) same ∙ ap answers.Sibling (sym numbers)) refl
    where
      by : (full : Bool) → option_map (text_of now) (good_number now pair.service pair.first) ≡ None → is_met now (room_for_tags pair.first pair.second) ≡ true → over_told (with_sibling now pair) ≡ None
          → is_met now room_for_sibling ≡ not full → does now (changes.SiblingAdded pair) ≡ cond full (Err whys.FullRelations) (Ok false)
      by true fresh place none left = sibling.added_full now pair there fresh place none left
      by false fresh place none left = sibling.added_done now pair there fresh place none left

  pub parent_settled : (full : Bool) (tags : PairTags) → tags ≡ pair_tags r pair → has_parent r pair ≡ false
      → is_met r (room_for_tags pair.first pair.second) ≡ true → is_met r room_for_parent ≡ not full → planned_records t plan pair ≡ with_parent r pair
      → IsPrepared (changes.ParentAdded pair) t (outcome full (answers.Parent tags))
  unfolding effect answer_to
  parent_settled full tags numbers told room rows leads =
      let fresh : has_parent now pair ≡ false = ap (λ (r : Records). has_parent r pair) same ∙ told in
      let place : is_met now (room_for_tags pair.first pair.second) ≡ true = ap (λ (r : Records). is_met r (room_for_tags pair.first pair.second)) same ∙ room in
      let few = leb-true (length (with_both t.tags.texts pair.first pair.second)) MAX_TAGS place in
      let left : is_met now room_for_parent ≡ not full = ap (λ (r : Records). is_met r room_for_parent) same ∙ rows in
      settled t (changes.ParentAdded pair) (record { pair = pair; relations = plan }) full (answers.Parent tags) few spare planned fits
      (leads ∙ ap (λ (r : Records). with_parent r pair) (sym same))
      (λ why over. parent.added_over now pair why there fresh place over)
      (λ none. by full fresh place none left)
      (ap (λ (r : Records). answers.Parent (pair_tags r pair)) same ∙ ap answers.Parent (sym numbers)) refl
    where
      by : (full : Bool) → has_parent now pair ≡ false → is_met now (room_for_tags pair.first pair.second) ≡ true → over_told (with_parent now pair) ≡ None
          → is_met now room_for_parent ≡ not full → does now (changes.ParentAdded pair) ≡ cond full (Err whys.FullRelations) (Ok false)
      by true fresh place none left = parent.added_full now pair there fresh place none left
      by false fresh place none left = parent.added_done now pair there fresh place none left

  pub no_sibling_settled : has_tag r pair.first ≡ true → has_tag r pair.second ≡ true → is_met r (pair_stands pair) ≡ true → planned_records t plan pair ≡ without_sibling r pair
      → IsPrepared (changes.SiblingRemoved pair) t (outcome false (answers.Changed true))
  unfolding effect answer_to
  no_sibling_settled first second stands leads =
      let one : has_tag now pair.first ≡ true = ap (λ (r : Records). has_tag r pair.first) same ∙ first in
      let two : has_tag now pair.second ≡ true = ap (λ (r : Records). has_tag r pair.second) same ∙ second in
      let pair_is : is_met now (pair_stands pair) ≡ true = ap (λ (r : Records). is_met r (pair_stands pair)) same ∙ stands in
      settled t (changes.SiblingRemoved pair) (record { pair = pair; relations = plan }) false (answers.Changed true) (tags_few now pair fits one two) spare planned fits
      (leads ∙ ap (λ (r : Records). without_sibling r pair) (sym same))
      (λ why over. sibling.removed_over now pair why there one two pair_is over) (λ none. sibling.removed_done now pair there one two pair_is none) refl refl

  pub no_parent_settled : has_tag r pair.first ≡ true → has_tag r pair.second ≡ true → has_parent r pair ≡ true → planned_records t plan pair ≡ without_parent r pair
      → IsPrepared (changes.ParentRemoved pair) t (outcome false (answers.Changed true))
  unfolding effect answer_to
  no_parent_settled first second stands leads =
      let one : has_tag now pair.first ≡ true = ap (λ (r : Records). has_tag r pair.first) same ∙ first in
      let two : has_tag now pair.second ≡ true = ap (λ (r : Records). has_tag r pair.second) same ∙ second in
      let pair_is : has_parent now pair ≡ true = ap (λ (r : Records). has_parent r pair) same ∙ stands in
      settled t (changes.ParentRemoved pair) (record { pair = pair; relations = plan }) false (answers.Changed true) (tags_few now pair fits one two) spare planned fits
      (leads ∙ ap (λ (r : Records). without_parent r pair) (sym same))
      (λ why over. parent.removed_over now pair why there one two pair_is over) (λ none. parent.removed_done now pair there one two pair_is none) refl refl

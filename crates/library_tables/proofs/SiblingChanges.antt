-- When changes of sibling pairs are refused, and when they are made.
use Rattle.std.proofs.Common.{◌≡◌, ◌∙◌, ◌&&◌, ℕ, Bool, true, false, not, Some, None, Ok, Err, Option, is_some, option_map, [], ◌∷◌, List, refl, ap}
use Rattle.media_base.specs.declared.change.Change.TheVariants as changes
use Rattle.media_base.specs.declared.change.TagPair.{TagPair}
use Rattle.media_base.specs.declared.refusal.Unmet.{Unmet}
use Rattle.media_base.specs.declared.refusal.Unmet.TheVariants as whys
use Rattle.library_machine.specs.Changing.{does, is_idle, needs}
use Rattle.library_machine.specs.Effects.{effect}
use Rattle.library_machine.specs.Needs.{few_implied, has_service, has_tag, is_met, no_good_yet, pair_stands, room_for_sibling, room_for_tags, service_there, tag_there}
use Rattle.library_machine.specs.Records.{Records}
use Rattle.library_machine.specs.Relating.{good_number, text_of, with_sibling, without_sibling}
use Rattle.library_tables.specs.Relations.{over_told}
use Rattle.library_tables.proofs.Guarding.{done_by, over_none, over_some, refused_at}
use Rattle.library_tables.proofs.Pairing.{good_known, no_good}

-- ---- a pair that is recorded

module _ (r : Records) (pair : TagPair) where
  pub added_no_service : has_service r pair.service ≡ false → does r (changes.SiblingAdded pair) ≡ Err whys.UnknownService
  unfolding needs
  added_no_service none =
      refused_at r (changes.SiblingAdded pair) [] (service_there pair.service)
      (no_good_yet pair.service pair.first ∷ room_for_tags pair.first pair.second ∷ few_implied (changes.SiblingAdded pair) ∷ room_for_sibling ∷ []) refl tt none

  pub added_known : (shown : List ℕ) → has_service r pair.service ≡ true → option_map (text_of r) (good_number r pair.service pair.first) ≡ Some shown → does r (changes.SiblingAdded pair) ≡ Err (whys.PairKnown shown)
  unfolding needs
  added_known shown service told =
      let known = good_known r pair.service pair.first shown told in
      refused_at r (changes.SiblingAdded pair) (service_there pair.service ∷ []) (no_good_yet pair.service pair.first)
      (room_for_tags pair.first pair.second ∷ few_implied (changes.SiblingAdded pair) ∷ room_for_sibling ∷ []) refl (service, tt) known.0 ∙ ap (λ (text : List ℕ). Err (whys.PairKnown text)) known.1

  -- no pair leads the bad tag on
  fresh : option_map (text_of r) (good_number r pair.service pair.first) ≡ None → not (is_some (good_number r pair.service pair.first)) ≡ true
  fresh told = ap (λ (found : Option ℕ). not (is_some found)) (no_good r pair.service pair.first told)

  pub added_no_tags : has_service r pair.service ≡ true → option_map (text_of r) (good_number r pair.service pair.first) ≡ None → is_met r (room_for_tags pair.first pair.second) ≡ false
      → does r (changes.SiblingAdded pair) ≡ Err whys.FullTags
  unfolding needs
  added_no_tags service told full =
      refused_at r (changes.SiblingAdded pair) (service_there pair.service ∷ no_good_yet pair.service pair.first ∷ []) (room_for_tags pair.first pair.second)
      (few_implied (changes.SiblingAdded pair) ∷ room_for_sibling ∷ []) refl (service, (fresh told, tt)) full

  pub added_over : (why : Unmet) → has_service r pair.service ≡ true → option_map (text_of r) (good_number r pair.service pair.first) ≡ None → is_met r (room_for_tags pair.first pair.second) ≡ true
      → over_told (with_sibling r pair) ≡ Some why → does r (changes.SiblingAdded pair) ≡ Err why
  unfolding needs effect
  added_over why service told room over =
      let some = over_some (with_sibling r pair) why over in
      refused_at r (changes.SiblingAdded pair) (service_there pair.service ∷ no_good_yet pair.service pair.first ∷ room_for_tags pair.first pair.second ∷ []) (few_implied (changes.SiblingAdded pair))
      (room_for_sibling ∷ []) refl (service, (fresh told, (room, tt))) some.0 ∙ ap Err some.1

  pub added_full : has_service r pair.service ≡ true → option_map (text_of r) (good_number r pair.service pair.first) ≡ None → is_met r (room_for_tags pair.first pair.second) ≡ true
      → over_told (with_sibling r pair) ≡ None → is_met r room_for_sibling ≡ false → does r (changes.SiblingAdded pair) ≡ Err whys.FullRelations
  unfolding needs effect
  added_full service told room none full =
      refused_at r (changes.SiblingAdded pair) (service_there pair.service ∷ no_good_yet pair.service pair.first ∷ room_for_tags pair.first pair.second ∷ few_implied (changes.SiblingAdded pair) ∷ [])
      room_for_sibling [] refl (service, (fresh told, (room, (over_none (with_sibling r pair) none, tt)))) full

  pub added_done : has_service r pair.service ≡ true → option_map (text_of r) (good_number r pair.service pair.first) ≡ None → is_met r (room_for_tags pair.first pair.second) ≡ true
      → over_told (with_sibling r pair) ≡ None → is_met r room_for_sibling ≡ true → does r (changes.SiblingAdded pair) ≡ Ok false
  unfolding needs effect is_idle
  added_done service told room none rows = done_by r (changes.SiblingAdded pair) false (service, (fresh told, (room, (over_none (with_sibling r pair) none, (rows, tt))))) refl

  -- ---- a pair that is removed

  pub removed_no_service : has_service r pair.service ≡ false → does r (changes.SiblingRemoved pair) ≡ Err whys.UnknownService
  unfolding needs
  removed_no_service none =
      refused_at r (changes.SiblingRemoved pair) [] (service_there pair.service) (tag_there pair.first ∷ tag_there pair.second ∷ pair_stands pair ∷ few_implied (changes.SiblingRemoved pair) ∷ []) refl tt none

  pub removed_no_tag : has_service r pair.service ≡ true → has_tag r pair.first && has_tag r pair.second ≡ false → does r (changes.SiblingRemoved pair) ≡ Err whys.UnknownTag
  unfolding needs
  removed_no_tag service none = by (has_tag r pair.first) (has_tag r pair.second) refl refl none where
    by : (first second : Bool) → has_tag r pair.first ≡ first → has_tag r pair.second ≡ second → first && second ≡ false → does r (changes.SiblingRemoved pair) ≡ Err whys.UnknownTag
    by true true f s e = absurd (cc e)
    by true false f s e =
        refused_at r (changes.SiblingRemoved pair) (service_there pair.service ∷ tag_there pair.first ∷ []) (tag_there pair.second) (pair_stands pair ∷ few_implied (changes.SiblingRemoved pair) ∷ []) refl (service, (f, tt)) s
    by false second f s e =
        refused_at r (changes.SiblingRemoved pair) (service_there pair.service ∷ []) (tag_there pair.first) (tag_there pair.second ∷ pair_stands pair ∷ few_implied (changes.SiblingRemoved pair) ∷ []) refl (service, tt) f

  pub removed_no_pair : has_service r pair.service ≡ true → has_tag r pair.first ≡ true → has_tag r pair.second ≡ true → is_met r (pair_stands pair) ≡ false → does r (changes.SiblingRemoved pair) ≡ Err whys.UnknownPair
  unfolding needs
  removed_no_pair service first second none =
      refused_at r (changes.SiblingRemoved pair) (service_there pair.service ∷ tag_there pair.first ∷ tag_there pair.second ∷ []) (pair_stands pair) (few_implied (changes.SiblingRemoved pair) ∷ []) refl
      (service, (first, (second, tt))) none

  pub removed_over : (why : Unmet) → has_service r pair.service ≡ true → has_tag r pair.first ≡ true → has_tag r pair.second ≡ true → is_met r (pair_stands pair) ≡ true
      → over_told (without_sibling r pair) ≡ Some why → does r (changes.SiblingRemoved pair) ≡ Err why
  unfolding needs effect
  removed_over why service first second stands over =
      let some = over_some (without_sibling r pair) why over in
      refused_at r (changes.SiblingRemoved pair) (service_there pair.service ∷ tag_there pair.first ∷ tag_there pair.second ∷ pair_stands pair ∷ []) (few_implied (changes.SiblingRemoved pair)) [] refl
      (service, (first, (second, (stands, tt)))) some.0 ∙ ap Err some.1

  pub removed_done : has_service r pair.service ≡ true → has_tag r pair.first ≡ true → has_tag r pair.second ≡ true → is_met r (pair_stands pair) ≡ true
      → over_told (without_sibling r pair) ≡ None → does r (changes.SiblingRemoved pair) ≡ Ok false
  unfolding needs effect is_idle
  removed_done service first second stands none = done_by r (changes.SiblingRemoved pair) false (service, (first, (second, (stands, (over_none (without_sibling r pair) none, tt))))) refl

-- When changes of parent pairs are refused, and when they are made.
use Rattle.std.proofs.Common.{◌≡◌, ◌∙◌, ◌&&◌, Bool, true, false, not, Some, None, Ok, Err, [], ◌∷◌, refl, ap}
use Rattle.media_base.specs.declared.change.Change.TheVariants as changes
use Rattle.media_base.specs.declared.change.TagPair.{TagPair}
use Rattle.media_base.specs.declared.refusal.Unmet.{Unmet}
use Rattle.media_base.specs.declared.refusal.Unmet.TheVariants as whys
use Rattle.library_machine.specs.Changing.{does, is_idle, needs}
use Rattle.library_machine.specs.Effects.{effect}
use Rattle.library_machine.specs.Needs.{few_implied, has_service, has_tag, is_met, no_parent_yet, parent_stands, room_for_parent, room_for_tags, service_there, tag_there}
use Rattle.library_machine.specs.Records.{Records}
use Rattle.library_machine.specs.Relating.{has_parent, with_parent, without_parent}
use Rattle.library_tables.specs.Relations.{over_told}
use Rattle.library_tables.proofs.Guarding.{done_by, over_none, over_some, refused_at}

-- ---- a pair that is recorded

module _ (r : Records) (pair : TagPair) where
  pub added_no_service : has_service r pair.service ≡ false → does r (changes.ParentAdded pair) ≡ Err whys.UnknownService
  unfolding needs
  added_no_service none =
      refused_at r (changes.ParentAdded pair) [] (service_there pair.service)
      (no_parent_yet pair ∷ room_for_tags pair.first pair.second ∷ few_implied (changes.ParentAdded pair) ∷ room_for_parent ∷ []) refl tt none

  pub added_known : has_service r pair.service ≡ true → has_parent r pair ≡ true → does r (changes.ParentAdded pair) ≡ Err (whys.PairKnown pair.second)
  unfolding needs
  added_known service stands =
      refused_at r (changes.ParentAdded pair) (service_there pair.service ∷ []) (no_parent_yet pair)
      (room_for_tags pair.first pair.second ∷ few_implied (changes.ParentAdded pair) ∷ room_for_parent ∷ []) refl (service, tt) (ap not stands)

  pub added_no_tags : has_service r pair.service ≡ true → has_parent r pair ≡ false → is_met r (room_for_tags pair.first pair.second) ≡ false
      → does r (changes.ParentAdded pair) ≡ Err whys.FullTags
  unfolding needs
  added_no_tags service told full =
      refused_at r (changes.ParentAdded pair) (service_there pair.service ∷ no_parent_yet pair ∷ []) (room_for_tags pair.first pair.second)
      (few_implied (changes.ParentAdded pair) ∷ room_for_parent ∷ []) refl (service, (ap not told, tt)) full

  pub added_over : (why : Unmet) → has_service r pair.service ≡ true → has_parent r pair ≡ false → is_met r (room_for_tags pair.first pair.second) ≡ true
      → over_told (with_parent r pair) ≡ Some why → does r (changes.ParentAdded pair) ≡ Err why
  unfolding needs effect
  added_over why service told room over =
      let some = over_some (with_parent r pair) why over in
      refused_at r (changes.ParentAdded pair) (service_there pair.service ∷ no_parent_yet pair ∷ room_for_tags pair.first pair.second ∷ []) (few_implied (changes.ParentAdded pair))
      (room_for_parent ∷ []) refl (service, (ap not told, (room, tt))) some.0 ∙ ap Err some.1

  pub added_full : has_service r pair.service ≡ true → has_parent r pair ≡ false → is_met r (room_for_tags pair.first pair.second) ≡ true
      → over_told (with_parent r pair) ≡ None → is_met r room_for_parent ≡ false → does r (changes.ParentAdded pair) ≡ Err whys.FullRelations
  unfolding needs effect
  added_full service told room none full =
      refused_at r (changes.ParentAdded pair) (service_there pair.service ∷ no_parent_yet pair ∷ room_for_tags pair.first pair.second ∷ few_implied (changes.ParentAdded pair) ∷ [])
      room_for_parent [] refl (service, (ap not told, (room, (over_none (with_parent r pair) none, tt)))) full

  pub added_done : has_service r pair.service ≡ true → has_parent r pair ≡ false → is_met r (room_for_tags pair.first pair.second) ≡ true
      → over_told (with_parent r pair) ≡ None → is_met r room_for_parent ≡ true → does r (changes.ParentAdded pair) ≡ Ok false
  unfolding needs effect is_idle
  added_done service told room none rows = done_by r (changes.ParentAdded pair) false (service, (ap not told, (room, (over_none (with_parent r pair) none, (rows, tt))))) refl

  -- ---- a pair that is removed

  pub removed_no_service : has_service r pair.service ≡ false → does r (changes.ParentRemoved pair) ≡ Err whys.UnknownService
  unfolding needs
  removed_no_service none =
      refused_at r (changes.ParentRemoved pair) [] (service_there pair.service) (tag_there pair.first ∷ tag_there pair.second ∷ parent_stands pair ∷ few_implied (changes.ParentRemoved pair) ∷ []) refl tt none

  pub removed_no_tag : has_service r pair.service ≡ true → has_tag r pair.first && has_tag r pair.second ≡ false → does r (changes.ParentRemoved pair) ≡ Err whys.UnknownTag
  unfolding needs
  removed_no_tag service none = by (has_tag r pair.first) (has_tag r pair.second) refl refl none where
    by : (first second : Bool) → has_tag r pair.first ≡ first → has_tag r pair.second ≡ second → first && second ≡ false → does r (changes.ParentRemoved pair) ≡ Err whys.UnknownTag
    by true true f s e = absurd (cc e)
    by true false f s e =
        refused_at r (changes.ParentRemoved pair) (service_there pair.service ∷ tag_there pair.first ∷ []) (tag_there pair.second) (parent_stands pair ∷ few_implied (changes.ParentRemoved pair) ∷ []) refl (service, (f, tt)) s
    by false second f s e =
        refused_at r (changes.ParentRemoved pair) (service_there pair.service ∷ []) (tag_there pair.first) (tag_there pair.second ∷ parent_stands pair ∷ few_implied (changes.ParentRemoved pair) ∷ []) refl (service, tt) f

  pub removed_no_pair : has_service r pair.service ≡ true → has_tag r pair.first ≡ true → has_tag r pair.second ≡ true → has_parent r pair ≡ false → does r (changes.ParentRemoved pair) ≡ Err whys.UnknownPair
  unfolding needs
  removed_no_pair service first second none =
      refused_at r (changes.ParentRemoved pair) (service_there pair.service ∷ tag_there pair.first ∷ tag_there pair.second ∷ []) (parent_stands pair) (few_implied (changes.ParentRemoved pair) ∷ []) refl
      (service, (first, (second, tt))) none

  pub removed_over : (why : Unmet) → has_service r pair.service ≡ true → has_tag r pair.first ≡ true → has_tag r pair.second ≡ true → has_parent r pair ≡ true
      → over_told (without_parent r pair) ≡ Some why → does r (changes.ParentRemoved pair) ≡ Err why
  unfolding needs effect
  removed_over why service first second stands over =
      let some = over_some (without_parent r pair) why over in
      refused_at r (changes.ParentRemoved pair) (service_there pair.service ∷ tag_there pair.first ∷ tag_there pair.second ∷ parent_stands pair ∷ []) (few_implied (changes.ParentRemoved pair)) [] refl
      (service, (first, (second, (stands, tt)))) some.0 ∙ ap Err some.1

  pub removed_done : has_service r pair.service ≡ true → has_tag r pair.first ≡ true → has_tag r pair.second ≡ true → has_parent r pair ≡ true
      → over_told (without_parent r pair) ≡ None → does r (changes.ParentRemoved pair) ≡ Ok false
  unfolding needs effect is_idle
  removed_done service first second stands none = done_by r (changes.ParentRemoved pair) false (service, (first, (second, (stands, (over_none (without_parent r pair) none, tt))))) refl

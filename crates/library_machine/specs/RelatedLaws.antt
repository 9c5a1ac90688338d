-- What changes of pairs leave: records that fit, and others. The ideal tag of a tag that is there is there too, and so
-- are its ancestors.
use Rattle.std.proofs.Common.{◌≡◌, ◌≢◌, ◌<◌, ◌≤◌, ◌==◌, ◌&&◌, ◌||◌, ℕ, zero, suc, Bool, true, false, cond, option_and_then, nat_lt, Option, Some, None, List, [], ◌∷◌, ◌++◌, length, length-append, map, filter, arith, refl, sym, ap, subst, ◌∙◌}
use Rattle.std.specs.List.{AllByRecursion, list_any}
use Rattle.std.proofs.lemmas.Bool.{lt-ltb, ltb-true, ne_eqb}
use Rattle.std.proofs.lemmas.List.Elements.{All-push, All-from_recursion, recursion_from_All}
use Rattle.media_types.specs.declared.numbers.ServiceNo.{ServiceNo}
use Rattle.media_types.specs.declared.numbers.TagNo.{TagNo}
use Rattle.media_base.specs.declared.change.TagPair.{TagPair}
use Rattle.tag_types.specs.declared.limits.TheConstants.{MAX_RELATIONS, MAX_TAGS}
use Rattle.tag_store.specs.Numbering.{number_of, with_tag}
use Rattle.tag_store.specs.NumberingLaws.{distinct-with_tag, length-grows, next_within, number_is, unnumbered_next}
use Rattle.sibling_chains.specs.ClusterLaws.{alone}
use Rattle.sibling_chains.specs.Clusters.{IsClosed}
use Rattle.sibling_chains.specs.Following.{good_of}
use Rattle.sibling_chains.specs.Recorded.{pair_of, pairs_of, removed, removed_at, standing_place}
use Rattle.sibling_chains.specs.RowLaws.{length-removed}
use Rattle.sibling_chains.specs.declared.relation_row.RelationRow.{RelationRow}
use Rattle.parent_closure.specs.Kept.{first_place, is_pair, stands_in}
use Rattle.library_machine.specs.Records.{Records, IsPairThere, IsService, PairsFit, TagsFit}
use Rattle.library_machine.specs.Relating.{IsParent, good_number, ideal_number, pair_tags, row_of, sibling_order, with_both, without_parent, without_sibling}
use Rattle.library_machine.specs.Tagging.{numbered}

-- among more services and tags
pub fit_more : (s t a b : ℕ) (rows : List RelationRow) → s ≤ a → t ≤ b → PairsFit s t rows → PairsFit a b rows
fit_more s t a b rows more_s more_t fit = record {
  few = fit.few;
  there = λ k d lt. let at = fit.there k d lt in (omega (arith, at.0, more_s), omega (arith, at.1, more_t), omega (arith, at.2, more_t));
}

module _ (r : Records) (pair : TagPair) where
  pub grows : length r.tags ≤ length (with_both r.tags pair.first pair.second)
  grows =
      let first = length-grows pair.first r.tags in
      let second = length-grows pair.second (with_tag r.tags pair.first) in
      omega (arith, first, second)

  -- the two tags of a pair are there once they are numbered
  pub pair_there : ((pair_tags r pair).first.0 < length (with_both r.tags pair.first pair.second)) × ((pair_tags r pair).second.0 < length (with_both r.tags pair.first pair.second))
  pair_there =
      let bad = next_within pair.first r.tags in
      let more = length-grows pair.second (with_tag r.tags pair.first) in
      (omega (arith, bad, more), next_within pair.second (with_tag r.tags pair.first))

  row_there : IsService r pair.service → IsPairThere (length r.services) (length (with_both r.tags pair.first pair.second)) (row_of r pair)
  row_there service = (service, pair_there.0, pair_there.1)

  pub tags_fit : length (with_both r.tags pair.first pair.second) ≤ MAX_TAGS → TagsFit (length r.files) r.tags r.services r.mappings
      → TagsFit (length r.files) (with_both r.tags pair.first pair.second) r.services r.mappings
  tags_fit few fit = record {
    few_tags = few;
    few_services = fit.few_services;
    few_mappings = fit.few_mappings;
    distinct = distinct-with_tag pair.second (with_tag r.tags pair.first) (distinct-with_tag pair.first r.tags fit.distinct);
    ascend = fit.ascend;
    there = λ s t f is. let at = fit.there s t f is in record { service = at.service; tag = omega (arith, at.tag, grows); file = at.file };
  }

  -- the rows still fit among the tags of the pair
  pub rows_fit : (rows : List RelationRow) → PairsFit (length r.services) (length r.tags) rows → PairsFit (length r.services) (length (with_both r.tags pair.first pair.second)) rows
  rows_fit rows fit = fit_more (length r.services) (length r.tags) (length r.services) (length (with_both r.tags pair.first pair.second)) rows (omega arith) grows fit

  pub added_fit : (rows : List RelationRow) → IsService r pair.service → length rows < MAX_RELATIONS → PairsFit (length r.services) (length r.tags) rows
      → PairsFit (length r.services) (length (with_both r.tags pair.first pair.second)) (rows ++ row_of r pair ∷ [])
  added_fit rows service room fit =
      let more = rows_fit rows fit in
      record {
        few = omega (arith, room, length-append rows);
        there = All-push (IsPairThere (length r.services) (length (with_both r.tags pair.first pair.second))) rows (row_of r pair) more.there (row_there service);
      }

-- ---- a pair that is removed

still_there : (s t n : ℕ) (rows : List RelationRow) → AllByRecursion (IsPairThere s t) rows → AllByRecursion (IsPairThere s t) (removed_at n rows)
still_there s t n [] all = tt
still_there s t zero (row ∷ rows) all = all
still_there s t (suc n) (row ∷ rows) all = (all.0, still_there s t n rows all.1)

pub removed_fit : (s t n : ℕ) (rows : List RelationRow) → PairsFit s t rows → PairsFit s t (removed_at n rows)
removed_fit s t n rows fit = record {
  few = rw (length-removed n rows) fit.few;
  there = All-from_recursion (IsPairThere s t) (removed_at n rows) (still_there s t n rows (recursion_from_All (IsPairThere s t) rows fit.there));
}

-- the row that stands for a bad tag becomes another one
place_differs : (s : ServiceNo) (bad good : ℕ) (rows : List RelationRow) → good_of (pairs_of rows s) bad ≡ Some good →
    removed_at (standing_place s.0 bad rows) rows ≢ rows
place_differs s bad good [] is = absurd (cc is)
place_differs s bad good (row ∷ rows) is = by row.standing (row.service.0 == s.0) (row.first.0 == bad) refl refl refl (place_differs s bad good rows) is
  where
    by : (stands here first : Bool) → row.standing ≡ stands → (row.service.0 == s.0) ≡ here → (row.first.0 == bad) ≡ first
        → (good_of (pairs_of rows s) bad ≡ Some good → removed_at (standing_place s.0 bad rows) rows ≢ rows)
        → good_of (map pair_of (cond (stands && here) (row ∷ filter (λ row. row.standing && row.service.0 == s.0) rows) (filter (λ row. row.standing && row.service.0 == s.0) rows))) bad ≡ Some good
        → removed_at (cond ((stands && here) && first) 0 (suc (standing_place s.0 bad rows))) (row ∷ rows) ≢ row ∷ rows
    by true true true stands here first rest is same =
        let head : removed row ≡ row = cc same in
        let standing = ap (λ (row : RelationRow). row.standing) head in
        cc (standing, stands)
    by true true false stands here first rest is same =
        let later : good_of (pairs_of rows s) bad ≡ Some good = sym (ap (λ (found : Bool). cond found (Some row.second.0) (good_of (pairs_of rows s) bad)) first) ∙ is in
        rest later (cc same)
    by true false first stands here is_first rest is same = rest is (cc same)
    by false here first stands is_here is_first rest is same = rest is (cc same)

-- a text that has a good tag is numbered, and its number has the good one
numbered_good : (r : Records) (service : ServiceNo) (text : List ℕ) (good : ℕ) (found : Option ℕ) → number_of text r.tags ≡ found → good_number r service text ≡ Some good →
    good_of (pairs_of r.siblings service) (numbered r text).0 ≡ Some good
numbered_good r service text good None none is = absurd (cc (none, is))
numbered_good r service text good (Some bad) found is =
    ap (good_of (pairs_of r.siblings service)) (number_is text r.tags (number_of text r.tags) refl bad found)
    ∙ sym (ap (λ (number : Option ℕ). option_and_then (λ bad. good_of (pairs_of r.siblings service) bad) number) found) ∙ is

pub good_stands : (r : Records) (service : ServiceNo) (text : List ℕ) (good : ℕ) → good_number r service text ≡ Some good →
    good_of (pairs_of r.siblings service) (numbered r text).0 ≡ Some good
good_stands r service text good = numbered_good r service text good _ refl

pub removed_other : (r : Records) (pair : TagPair) (good : ℕ) → good_number r pair.service pair.first ≡ Some good → without_sibling r pair ≢ r
removed_other r pair good is same =
    place_differs pair.service (numbered r pair.first).0 good r.siblings (good_stands r pair.service pair.first good is) (ap (λ (s : Records). s.siblings) same)

-- the first row that stands for a pair becomes another one
pair_differs : (s child parent : ℕ) (rows : List RelationRow) → list_any (is_pair s child parent) rows ≡ true → removed_at (first_place (is_pair s child parent) rows) rows ≢ rows
pair_differs s child parent [] is = absurd (cc is)
pair_differs s child parent (row ∷ rows) is = by (is_pair s child parent row) row.standing refl refl (pair_differs s child parent rows) is
  where
    first_part : (a b c d : Bool) → (((a && b) && c) && d) ≡ true → a ≡ true
    first_part true b c d is = refl
    first_part false b c d is = is

    by : (here stands : Bool) → is_pair s child parent row ≡ here → row.standing ≡ stands
        → (list_any (is_pair s child parent) rows ≡ true → removed_at (first_place (is_pair s child parent) rows) rows ≢ rows)
        → (here || list_any (is_pair s child parent) rows) ≡ true
        → removed_at (cond here 0 (suc (first_place (is_pair s child parent) rows))) (row ∷ rows) ≢ row ∷ rows
    by true true here stands rest is same =
        let head : removed row ≡ row = cc same in
        let standing = ap (λ (row : RelationRow). row.standing) head in
        cc (standing, stands)
    by true false here stands rest is same =
        let yes_stands : row.standing ≡ true = first_part row.standing (row.service.0 == s) (row.first.0 == child) (row.second.0 == parent) here in
        cc (yes_stands, stands)
    by false stands here is_standing rest is same = rest is (cc same)

-- a parent pair that stands does so by the numbers of its texts
pub parent_stands : (r : Records) (pair : TagPair) → IsParent r pair → stands_in r.parents pair.service.0 (numbered r pair.first).0 (numbered r pair.second).0 ≡ true
parent_stands r pair there =
    let child = number_is pair.first r.tags (number_of pair.first r.tags) refl there.0 there.2 in
    let parent = number_is pair.second r.tags (number_of pair.second r.tags) refl there.1 there.3 in
    ap (λ (c : ℕ). stands_in r.parents pair.service.0 c (numbered r pair.second).0) child ∙ ap (stands_in r.parents pair.service.0 there.0) parent ∙ there.4

pub parent_other : (r : Records) (pair : TagPair) → IsParent r pair → without_parent r pair ≢ r
parent_other r pair there same =
    pair_differs pair.service.0 (numbered r pair.first).0 (numbered r pair.second).0 r.parents (parent_stands r pair there) (ap (λ (s : Records). s.parents) same)

-- ---- good tags

-- a good tag is there
good_below : (s t : ℕ) (service : ServiceNo) (bad good : ℕ) (rows : List RelationRow) → AllByRecursion (IsPairThere s t) rows → good_of (pairs_of rows service) bad ≡ Some good → good < t
good_below s t service bad good [] all is = absurd (cc is)
good_below s t service bad good (row ∷ rows) all is = by (row.standing && row.service.0 == service.0) (row.first.0 == bad) refl (good_below s t service bad good rows all.1) is
  where
    by : (here first : Bool) → (row.first.0 == bad) ≡ first → (good_of (pairs_of rows service) bad ≡ Some good → good < t)
        → good_of (map pair_of (cond here (row ∷ filter (λ row. row.standing && row.service.0 == service.0) rows) (filter (λ row. row.standing && row.service.0 == service.0) rows))) bad ≡ Some good
        → good < t
    by true true first rest is =
        let told : Some row.second.0 ≡ Some good = sym (ap (λ (found : Bool). cond found (Some row.second.0) (good_of (pairs_of rows service) bad)) first) ∙ is in
        let same : row.second.0 ≡ good = cc told in
        subst (λ (n : ℕ). n < t) same all.0.2
    by true false first rest is = rest (sym (ap (λ (found : Bool). cond found (Some row.second.0) (good_of (pairs_of rows service) bad)) first) ∙ is)
    by false is_first first rest is = rest is

pub good_there : (s t : ℕ) (service : ServiceNo) (bad good : ℕ) (rows : List RelationRow) → PairsFit s t rows → good_of (pairs_of rows service) bad ≡ Some good → good < t
good_there s t service bad good rows fit = good_below s t service bad good rows (recursion_from_All (IsPairThere s t) rows fit.there)

-- a tag that isn't there has no good tag
none_past : (s t : ℕ) (service : ServiceNo) (bad : ℕ) (rows : List RelationRow) → t ≤ bad → AllByRecursion (IsPairThere s t) rows → good_of (pairs_of rows service) bad ≡ None
none_past s t service bad [] past all = refl
none_past s t service bad (row ∷ rows) past all = by (row.standing && row.service.0 == service.0) (none_past s t service bad rows past all.1)
  where
    by : (here : Bool) → good_of (pairs_of rows service) bad ≡ None
        → good_of (map pair_of (cond here (row ∷ filter (λ row. row.standing && row.service.0 == service.0) rows) (filter (λ row. row.standing && row.service.0 == service.0) rows))) bad ≡ None
    by true rest =
        let other : (row.first.0 == bad) ≡ false = ne_eqb row.first.0 bad (λ same. omega (arith, same, past, all.0.1)) in
        ap (λ (found : Bool). cond found (Some row.second.0) (good_of (pairs_of rows service) bad)) other ∙ rest
    by false rest = rest

none_by : (r : Records) (service : ServiceNo) (text : List ℕ) (found : Option ℕ) → number_of text r.tags ≡ found → PairsFit (length r.services) (length r.tags) r.siblings →
    good_number r service text ≡ None → good_of (pairs_of r.siblings service) (numbered r text).0 ≡ None
none_by r service text None found fit is =
    let last = unnumbered_next text r.tags found in
    none_past (length r.services) (length r.tags) service (numbered r text).0 r.siblings (omega (arith, last)) (recursion_from_All (IsPairThere (length r.services) (length r.tags)) r.siblings fit.there)
none_by r service text (Some bad) found fit is =
    ap (good_of (pairs_of r.siblings service)) (number_is text r.tags (number_of text r.tags) refl bad found)
    ∙ sym (ap (λ (number : Option ℕ). option_and_then (λ bad. good_of (pairs_of r.siblings service) bad) number) found) ∙ is

pub none_stands : (r : Records) (service : ServiceNo) (text : List ℕ) → PairsFit (length r.services) (length r.tags) r.siblings →
    good_number r service text ≡ None → good_of (pairs_of r.siblings service) (numbered r text).0 ≡ None
none_stands r service text = none_by r service text _ refl

-- ---- ideal tags

pub ideal_there : (r : Records) (service : ServiceNo) (tag : TagNo) → PairsFit (length r.services) (length r.tags) r.siblings → tag.0 < length r.tags →
    ideal_number r service tag < length r.tags
ideal_there r service tag fit there =
    let is_there : ℕ → Bool = λ t. nat_lt t (length r.tags) in
    let closed : IsClosed is_there r.siblings = λ k d lt. let at = fit.there k d lt in lt-ltb _ _ at.1 ∙ sym (lt-ltb _ _ at.2) in
    ltb-true _ _ (alone is_there (sibling_order r service) r.siblings closed tag.0 (lt-ltb _ _ there)).1

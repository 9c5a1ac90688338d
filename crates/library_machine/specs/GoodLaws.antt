-- A change that is made leaves records that fit, and others: a lemma for each change.
use Rattle.std.proofs.Common.{◌≡◌, ◌≢◌, ◌⊎◌, ◌<◌, ◌≤◌, inl, inr, ℕ, zero, suc, Bool, true, false, not, Option, Some, None, is_some, option_map, List, [], ◌∷◌, ◌++◌, length, length-append, map, slice_get, Ok, arith, refl, sym, ap, ◌∙◌, rules}
use Rattle.std.specs.Option.{option_map_or}
use Rattle.std.proofs.lemmas.Bool.{eqb-false, both_ways}
use Rattle.std.proofs.lemmas.List.{length-set, map-append}
use Rattle.std.proofs.lemmas.List.Elements.{All-nil, All-push}
use Rattle.std.proofs.lemmas.Option.{slice_get_cases}
use Rattle.media_types.specs.declared.decision.Decision.{Decision}
use Rattle.media_types.specs.declared.limits.TheConstants.{MAX_DECISIONS, MAX_FILES, MAX_NEAR}
use Rattle.media_types.specs.declared.new_file.NewFile.{NewFile}
use Rattle.media_types.specs.declared.numbers.DecisionNo.{DecisionNo}
use Rattle.media_types.specs.declared.numbers.FileNo.{FileNo}
use Rattle.media_types.specs.declared.searching.Searching.{Searching}
use Rattle.media_base.specs.declared.change.Change.{Change}
use Rattle.media_base.specs.declared.change.Change.TheVariants as changes
use Rattle.spare_tables.specs.Pairs.{pairs_below}
use Rattle.file_records.specs.declared.file_row.FileRow.{FileRow}
use Rattle.file_records.specs.Lookup.{file_with}
use Rattle.file_records.specs.Near.{near_pairs}
use Rattle.file_records.specs.Rows.{row_of}
use Rattle.decision_book.specs.declared.decision_row.DecisionRow.{DecisionRow}
use Rattle.decision_book.specs.Recorded.{undone, undone_at}
use Rattle.decision_book.specs.Standing as book
use Rattle.relation_groups.specs.Relations.{AreAmong}
use Rattle.file_records.specs.LookupLaws.{distinct_with, not_found}
use Rattle.file_records.specs.MarkLaws as marks
use Rattle.file_records.specs.NearLaws as near
use Rattle.file_records.specs.SearchLaws as searches
use Rattle.decision_book.specs.DecisionLaws.{undoing_keeps_decisions, undoing_keeps_length}
use Rattle.library_machine.specs.Changing.{does, is_idle, is_marked, mapping_needs, needs}
use Rattle.library_machine.specs.Effects.{effect}
use Rattle.library_machine.specs.Guards.{AreMet}
use Rattle.library_machine.specs.Laws.{ChangesDiffer, ChangesKeepFit}
use Rattle.library_machine.specs.Needs.{Met, is_met, unmet}
use Rattle.library_machine.specs.LimitLaws.{service_few, tags_few}
use Rattle.library_machine.specs.RelatedLaws.{added_fit, fit_more, parent_other, removed_fit, removed_other, rows_fit, tags_fit}
use Rattle.library_machine.specs.Relating.{parent_place, place_of, with_parent, with_sibling, without_parent, without_sibling}
use Rattle.media_base.specs.declared.change.Mapping.{Mapping}
use Rattle.media_base.specs.declared.change.TagPair.{TagPair}
use Rattle.media_types.specs.declared.numbers.ServiceNo.{ServiceNo}
use Rattle.sibling_chains.specs.declared.relation_row.RelationRow.{RelationRow}
use Rattle.tag_types.specs.declared.limits.TheConstants.{MAX_SERVICES}
use Rattle.tag_types.specs.declared.orders.Orders.{Orders}
use Rattle.tag_store.specs.Numbering.{with_tag}
use Rattle.tag_store.specs.NumberingLaws.{length-grows}
use Rattle.library_machine.specs.Records.{Records, Fits, IsPairThere, PairsFit, TagsFit, IsThere, IsNew, IsRecorded, IsService, no_records, too_many}
use Rattle.library_machine.specs.Searches.{after_search, is_empty, risen}
use Rattle.library_machine.specs.MeetingLaws.{all_met, means, none_there, one_file}
use Rattle.library_machine.specs.TaggedLaws.{fit_more_files, none_ascends, service_fit, orders_fit, orders_other, mapping_fits, mapping_other}
use Rattle.library_machine.specs.Tagging.{with_mapping, with_orders, with_service}

pub record IsGood (r : Records) (c : Change) : Type 0 where
  pub fits : Fits r → Fits (effect r c)
  pub other : effect r c ≢ r

longer : {A : Type 0} (xs : List A) (x : A) → xs ++ x ∷ [] ≢ xs
longer xs x same = let n = ap length same in omega (arith, n, length-append xs)

abbrev files_of : Records → List FileRow
files_of r = r.files

-- ---- imports

new_by : (r : Records) (file : NewFile) (found : Option ℕ) → file_with file.sha r.files ≡ found → is_some found ≡ false → IsNew r file.sha
new_by r file None is fresh = (not_found file.sha r.files).0 is
new_by r file (Some at) is fresh = absurd (cc fresh)

-- decisions of files that are there stay so when files are added
among_more : (n m : ℕ) (ds : List Decision) → n ≤ m → AreAmong n ds → AreAmong m ds
among_more n m ds le among = λ k d lt. let at = among k d lt in (omega arith, omega arith)

file_good : (r : Records) (file : NewFile) → IsNew r file.sha → (¬ IsNew r file.sha) ⊎ (length r.files < MAX_FILES) →
    Fits r → Fits (record r { files = r.files ++ row_of file ∷ [] })
file_good r file new (inl known) fits = absurd (known new)
file_good r file new (inr room) fits = record {
  few_files = omega (arith, room, length-append r.files);
  few_decisions = fits.few_decisions;
  few_near = rw (near.one_more (row_of file) r.files refl) fits.few_near;
  distinct = distinct_with (row_of file) r.files fits.distinct new;
  among = among_more (length r.files) _ _ (omega (arith, length-append r.files)) fits.among;
  of_two = fits.of_two;
  tags = fit_more_files (length r.files) _ r (omega (arith, length-append r.files)) fits.tags;
  siblings = fits.siblings;
  parents = fits.parents;
  few_implied = fits.few_implied;
}

-- ---- marks

mark_good : (r : Records) (file : FileNo) (live : Bool) →
    Fits r → Fits (effect r (changes.Live file live))
unfolding effect
mark_good r file live fits = record {
  few_files = rw (marks.same_length file.0 live r.files) fits.few_files;
  few_decisions = fits.few_decisions;
  few_near = rw (marks.near file.0 live r.files) fits.few_near;
  distinct = marks.distinct file.0 live r.files fits.distinct;
  among = rw (marks.same_length file.0 live r.files) fits.among;
  of_two = fits.of_two;
  tags = rw (marks.same_length file.0 live r.files) fits.tags;
  siblings = fits.siblings;
  parents = fits.parents;
  few_implied = fits.few_implied;
}

-- a file that is there has a row
pub row_there : (r : Records) (file : FileNo) → IsThere r file → (row : FileRow) × (slice_get r.files file.0 ≡ Some row)
row_there r file there =
    elim ((slice_get_cases r.files file.0).1) [ inl some ↦ (some.0, some.2) | inr past ↦ absurd (omega (arith, past.0)) ]

-- whether the row of a file, if there is one, is marked as live
abbrev pub has_live_mark : Option FileRow → Bool
has_live_mark found = option_map_or (λ row. row.live) found false

-- a file is marked as its row is
marked_as : (r : Records) (file : FileNo) (row : FileRow) (live : Bool) → slice_get r.files file.0 ≡ Some row → row.live ≡ live → is_marked r file live ≡ true
marked_as r file row true is e = ap has_live_mark is ∙ e
marked_as r file row false is e = ap not (ap has_live_mark is ∙ e)

mark_other : (r : Records) (file : FileNo) (live : Bool) → IsThere r file → is_marked r file live ≡ false →
    effect r (changes.Live file live) ≢ r
unfolding effect
mark_other r file live there fresh same =
    let row = row_there r file there in
    let stands = (marks.changes file.0 live r.files row.0 row.1).0 (ap files_of same) in
    both_ways _ fresh (marked_as r file row.0 live row.1 stands)

-- ---- decisions

decision_good : (r : Records) (d : Decision) → IsThere r d.a → IsThere r d.b → d.a ≢ d.b → length r.decisions < MAX_DECISIONS →
    Fits r → Fits (record r { decisions = r.decisions ++ book.row_of d ∷ [] })
decision_good r d a b two room fits = record {
  few_files = fits.few_files;
  few_decisions = omega (arith, room, length-append r.decisions);
  few_near = fits.few_near;
  distinct = fits.distinct;
  among =
      let Among : Decision → Type 0 = λ e. (e.a.0 < length r.files) × (e.b.0 < length r.files) in
      rw map-append (All-push Among (map book.decision_of r.decisions) d fits.among (a, b));
  of_two =
      let OfTwo : Decision → Type 0 = λ e. e.a.0 ≢ e.b.0 in
      rw map-append (All-push OfTwo (map book.decision_of r.decisions) d fits.of_two (λ e. two (one_file d.a d.b e)));
  tags = fits.tags;
  siblings = fits.siblings;
  parents = fits.parents;
  few_implied = fits.few_implied;
}

undoing_good : (r : Records) (n : DecisionNo) → Fits r → Fits (record r { decisions = undone_at n.0 r.decisions })
undoing_good r n fits = record {
  few_files = fits.few_files;
  few_decisions = rw (undoing_keeps_length n.0 r.decisions) fits.few_decisions;
  few_near = fits.few_near;
  distinct = fits.distinct;
  among = rw (undoing_keeps_decisions n.0 r.decisions) fits.among;
  of_two = rw (undoing_keeps_decisions n.0 r.decisions) fits.of_two;
  tags = fits.tags;
  siblings = fits.siblings;
  parents = fits.parents;
  few_implied = fits.few_implied;
}

-- the row of an undone decision is another one
undone_row : (n : ℕ) (rows : List DecisionRow) (row : DecisionRow) → slice_get rows n ≡ Some row → slice_get (undone_at n rows) n ≡ Some (undone row)
undone_row n [] row e = absurd (cc)
undone_row zero (first ∷ rows) row e = ap (λ (found : Option DecisionRow). option_map undone found) e
undone_row (suc n) (first ∷ rows) row e = undone_row n rows row e

undoing_other : (r : Records) (n : DecisionNo) → IsRecorded r n false → record r { decisions = undone_at n.0 r.decisions } ≢ r
undoing_other r n there same =
    let rows = ap (λ (s : Records). s.decisions) same in
    let now = sym (ap (λ (all : List DecisionRow). slice_get all n.0) rows) ∙ undone_row n.0 r.decisions there.0 there.1 in
    cc (now, there.1, there.2)

-- ---- searches

distance_good : (r : Records) (d : ℕ) → Fits r → Fits (record r { distance = d })
distance_good r d fits = record {
  few_files = fits.few_files;
  few_decisions = fits.few_decisions;
  few_near = fits.few_near;
  distinct = fits.distinct;
  among = fits.among;
  of_two = fits.of_two;
  tags = fits.tags;
  siblings = fits.siblings;
  parents = fits.parents;
  few_implied = fits.few_implied;
}

search_good : (r : Records) (s : Searching) → is_empty (risen r s) ≡ false →
    (risen r s ≡ []) ⊎ (length (near_pairs (after_search r s).files) ≤ MAX_NEAR) → Fits r → Fits (after_search r s)
search_good r s fresh (inl none) fits = absurd (both_ways _ fresh ((none_there (risen r s)).1 none))
search_good r s fresh (inr room) fits = record {
  few_files = rw (searches.same_length s.distance s.files r.files) fits.few_files;
  few_decisions = fits.few_decisions;
  few_near = room;
  distinct = searches.distinct s.distance s.files r.files fits.distinct;
  among = rw (searches.same_length s.distance s.files r.files) fits.among;
  of_two = fits.of_two;
  tags = rw (searches.same_length s.distance s.files r.files) fits.tags;
  siblings = fits.siblings;
  parents = fits.parents;
  few_implied = fits.few_implied;
}

search_other : (r : Records) (s : Searching) → is_empty (risen r s) ≡ false → after_search r s ≢ r
search_other r s fresh same =
    both_ways _ fresh ((none_there (risen r s)).1 ((searches.changes s.distance s.files r.files).1 (ap files_of same)))

-- ---- tags

-- the pairs of records fit
abbrev RowsFit : Records → Type 0
RowsFit r = PairsFit (length r.services) (length r.tags) r.siblings × PairsFit (length r.services) (length r.tags) r.parents

-- records that differ in tags, services, mappings and pairs alone
with_tags : (r s : Records) → s.files ≡ r.files → s.decisions ≡ r.decisions → s.distance ≡ r.distance
    → TagsFit (length r.files) s.tags s.services s.mappings → RowsFit s → too_many s ≡ None → Fits r → Fits s
with_tags r s files decisions distance tags rows few fits = record {
  few_files = rw files fits.few_files;
  few_decisions = rw decisions fits.few_decisions;
  few_near = rw files fits.few_near;
  distinct = rw files fits.distinct;
  among = rw (files, decisions) fits.among;
  of_two = rw decisions fits.of_two;
  tags = rw files tags;
  siblings = rows.0;
  parents = rows.1;
  few_implied = few;
}

service_good : (r : Records) → length r.services < MAX_SERVICES → Fits r → Fits (with_service r)
service_good r room fits =
    let more = λ (rows : List RelationRow). fit_more (length r.services) (length r.tags) (length (with_service r).services) (length r.tags) rows (omega (arith, length-append r.services)) (omega arith) in
    with_tags r (with_service r) refl refl refl (service_fit r room fits.tags) (more r.siblings fits.siblings, more r.parents fits.parents)
    (service_few r fits.siblings fits.parents fits.few_implied) fits

orders_good : (r : Records) (service : ServiceNo) (orders : Orders) → too_many (with_orders r service orders) ≡ None → Fits r → Fits (with_orders r service orders)
orders_good r service orders few fits =
    with_tags r (with_orders r service orders) refl refl refl (orders_fit r service orders fits.tags)
    (rw (length-set r.services service.0 orders) fits.siblings, rw (length-set r.services service.0 orders) fits.parents) few fits

mapping_good : (r : Records) (m : Mapping) → IsThere r m.file → IsService r m.service → AreMet (Met r) (mapping_needs m m.state) → Fits r → Fits (with_mapping r m)
mapping_good r m file service met fits =
    let more = λ (rows : List RelationRow). fit_more (length r.services) (length r.tags) (length r.services) (length (with_tag r.tags m.tag)) rows (omega arith) (length-grows m.tag r.tags) in
    with_tags r (with_mapping r m) refl refl refl (mapping_fits r m file service met fits.tags) (more r.siblings fits.siblings, more r.parents fits.parents)
    (tags_few r (length (with_tag r.tags m.tag)) (length-grows m.tag r.tags) fits.siblings fits.parents fits.few_implied) fits

sibling_good : (r : Records) (pair : TagPair) → AreMet (Met r) (needs (changes.SiblingAdded pair)) → Fits r → Fits (with_sibling r pair)
unfolding needs effect
sibling_good r pair met fits =
    with_tags r (with_sibling r pair) refl refl refl (tags_fit r pair met.1.1.0 fits.tags)
    (added_fit r pair r.siblings met.0 met.1.1.1.1.0 fits.siblings, rows_fit r pair r.parents fits.parents) met.1.1.1.0 fits

no_sibling_good : (r : Records) (pair : TagPair) → too_many (without_sibling r pair) ≡ None → Fits r → Fits (without_sibling r pair)
no_sibling_good r pair few fits =
    with_tags r (without_sibling r pair) refl refl refl fits.tags (removed_fit _ _ (place_of r pair) r.siblings fits.siblings, fits.parents) few fits

parent_good : (r : Records) (pair : TagPair) → AreMet (Met r) (needs (changes.ParentAdded pair)) → Fits r → Fits (with_parent r pair)
unfolding needs effect
parent_good r pair met fits =
    with_tags r (with_parent r pair) refl refl refl (tags_fit r pair met.1.1.0 fits.tags)
    (rows_fit r pair r.siblings fits.siblings, added_fit r pair r.parents met.0 met.1.1.1.1.0 fits.parents) met.1.1.1.0 fits

no_parent_good : (r : Records) (pair : TagPair) → too_many (without_parent r pair) ≡ None → Fits r → Fits (without_parent r pair)
no_parent_good r pair few fits =
    with_tags r (without_parent r pair) refl refl refl fits.tags (fits.siblings, removed_fit _ _ (parent_place r pair) r.parents fits.parents) few fits

-- ---- all changes

-- one line for each change
good : (r : Records) (c : Change) → AreMet (Met r) (needs c) → is_idle r c ≡ false → IsGood r c
unfolding needs is_idle effect
good r (changes.File file) met fresh = record {
  fits = file_good r file (new_by r file _ refl fresh) met.0;
  other = λ same. longer r.files _ (ap files_of same);
}
good r (changes.Live file live) met fresh = record {
  fits = mark_good r file live;
  other = mark_other r file live met.0 fresh;
}
good r (changes.Decision d) met fresh = record {
  fits = decision_good r d met.0 met.1.0 met.1.1.0 met.1.1.1.0;
  other = λ same. longer r.decisions _ (ap (λ (s : Records). s.decisions) same);
}
good r (changes.Undo n) met fresh = record {
  fits = undoing_good r n;
  other = undoing_other r n met.1.0;
}
good r (changes.Distance d) met fresh = record {
  fits = distance_good r d;
  other = λ same. eqb-false _ _ fresh (sym (ap (λ (s : Records). s.distance) same));
}
good r (changes.Searched s) met fresh = record {
  fits = search_good r s fresh met.1.0;
  other = search_other r s fresh;
}
good r changes.Service met fresh = record {
  fits = service_good r met.0;
  other = λ same. longer r.services _ (ap (λ (s : Records). s.services) same);
}
good r (changes.Orders service orders) met fresh = record {
  fits = orders_good r service orders met.1.0;
  other = orders_other r service orders (met.0 0 service (omega arith)) fresh;
}
good r (changes.Mapping m) met fresh = record {
  fits = mapping_good r m met.0 met.1.0 met.1.1;
  other = mapping_other r m fresh;
}
good r (changes.SiblingAdded pair) met fresh = record {
  fits = sibling_good r pair met;
  other = λ same. longer r.siblings _ (ap (λ (s : Records). s.siblings) same);
}
good r (changes.SiblingRemoved pair) met fresh = record {
  fits = no_sibling_good r pair met.1.1.1.1.0;
  other = removed_other r pair met.1.1.1.0.0 met.1.1.1.0.1;
}
good r (changes.ParentAdded pair) met fresh = record {
  fits = parent_good r pair met;
  other = λ same. longer r.parents _ (ap (λ (s : Records). s.parents) same);
}
good r (changes.ParentRemoved pair) met fresh = record {
  fits = no_parent_good r pair met.1.1.1.1.0;
  other = parent_other r pair met.1.1.1.0;
}

lawful_good : (r : Records) (c : Change) → does r c ≡ Ok false → IsGood r c
lawful_good r c made =
    let p = (all_met (is_met r) (Met r) (unmet r) (means r) (needs c) (is_idle r c) false).0 made in
    good r c p.0 p.1

pub changes_keep_fit : ChangesKeepFit
changes_keep_fit r change made = (lawful_good r change made).fits

pub changes_differ : ChangesDiffer
changes_differ r change made = (lawful_good r change made).other

-- no pair is of what isn't there
none_paired : PairsFit 1 0 []
none_paired = record { few = omega arith; there = All-nil (IsPairThere 1 0) }

pub first_fit : Fits no_records
unfolding pairs_below
first_fit = search (rules, none_ascends, none_paired)

-- What is prepared for pairs of tags is what the changes come to.
use Rattle.std.proofs.Common.{◌≡◌, ◌⊎◌, ◌<◌, ◌≤◌, ℕ, zero, suc, true, false, not, Some, None, Ok, Option, is_some, option_map, [], ◌∷◌, ◌++◌, List, length, map, slice_get, arith, inl, inr, refl, ap, sym, subst, ◌∙◌}
use Rattle.std.specs.Prelude.{slice_index_or, bytes_eq, option_and_then}
use Rattle.std.specs.Option.{option_map_or}
use Rattle.std.proofs.lemmas.Bool.{cases_lt}
use Rattle.std.proofs.lemmas.List.{length-map, map-append}
use Rattle.std.proofs.lemmas.Option.{get_or_from_slice_get}
use Rattle.media_types.specs.declared.numbers.ServiceNo.{ServiceNo}
use Rattle.media_types.specs.declared.numbers.TagNo.{TagNo}
use Rattle.media_base.specs.declared.change.Change.{Change}
use Rattle.media_base.specs.declared.command.Query.TheVariants as queries
use Rattle.media_base.specs.declared.change.TagPair.{TagPair}
use Rattle.media_base.specs.declared.reply.Answer.{Answer}
use Rattle.media_base.specs.declared.reply.Answer.TheVariants as answers
use Rattle.sibling_chains.specs.Following.{good_of}
use Rattle.sibling_chains.specs.Known.{ideal_in}
use Rattle.sibling_chains.specs.Recorded.{ideal, pairs_of}
use Rattle.tag_relations.specs.Planning.{IsPlanFor}
use Rattle.tag_relations.specs.Related.{Related, relations_at}
use Rattle.tag_types.specs.declared.limits.TheConstants.{MAX_TAGS}
use Rattle.tag_types.specs.declared.orders.Orders.{Orders}
use Rattle.tag_store.specs.Numbering.{Numbered, number_behind, number_of, number_or_next, with_tag}
use Rattle.tag_store.specs.NumberingLaws.{known_stays, length-with_tag, next_within, number_is, number_stays, number_with_tag, numbered_known, numbered_there, text_at_number, unnumbered_next}
use Rattle.tag_store.specs.Serving.{next_orders}
use Rattle.library_machine.specs.Tagging.{numbered}
use Rattle.library_machine.specs.Asking.{answer, asked, query_needs}
use Rattle.library_machine.specs.Changing.{answer_to, does}
use Rattle.library_machine.specs.Effects.{effect}
use Rattle.library_machine.specs.GoodLaws.{changes_keep_fit}
use Rattle.library_machine.specs.Needs.{has_service, has_tag, is_met, pair_stands}
use Rattle.library_machine.specs.Records.{Fits, Records, all_relations, order_at}
use Rattle.library_machine.specs.Relating.{ancestor_numbers, good_number, good_text, ideal_number, pair_tags, text_of, with_both}
use Rattle.library_tables.specs.declared.plan.Prepared.TheVariants as prepared
use Rattle.library_tables.specs.declared.plan.TablesPlan.TheVariants as plans
use Rattle.library_tables.specs.declared.tag_pairs.PlannedPair.{PlannedPair}
use Rattle.library_tables.specs.Preparing.{IsPrepared, words_brought}
use Rattle.library_tables.specs.Relations.{planned_records}
use Rattle.library_tables.specs.Tables.{AreInStep, TablesView, parent_orders, records_of, sibling_orders}

-- ---- the tables stay in step

pub relations_in_step : (t : TablesView) → AreInStep t → (tags : Numbered) (services : List Orders) (relations : Related) →
    Fits (records_of (record t { tags = tags; services = services; relations = relations })) →
    relations.siblings.orders ≡ sibling_orders services → relations.parents.orders ≡ parent_orders services → AreInStep (record t { tags = tags; services = services; relations = relations })
relations_in_step t step tags services relations fits ordered parents_ordered = record {
  fits = fits;
  decided = step.decided;
  grouped = step.grouped;
  related = step.related;
  words = step.words;
  marked = step.marked;
  paired = step.paired;
  queued = step.queued;
  ordered = ordered;
  parents_ordered = parents_ordered;
}

own_more : (list_of : Orders → List ServiceNo) → (services : List Orders) → list_of (next_orders services) ≡ (record { 0 = length services }) ∷ []
    → map list_of (services ++ next_orders services ∷ []) ≡ map list_of services ++ ((record { 0 = length (map list_of services) }) ∷ []) ∷ []
own_more list_of services own =
    let count : length services ≡ length (map list_of services) = sym (length-map services list_of) in
    map-append list_of services (next_orders services ∷ []) ∙ ap (λ order. map list_of services ++ order ∷ []) own ∙ ap (λ (n : ℕ). map list_of services ++ ((record { 0 = n }) ∷ []) ∷ []) count

pub orders_more : (services : List Orders) → sibling_orders (services ++ next_orders services ∷ []) ≡ sibling_orders services ++ ((record { 0 = length (sibling_orders services) }) ∷ []) ∷ []
orders_more services = own_more (λ orders. orders.siblings) services refl

pub parents_more : (services : List Orders) → parent_orders (services ++ next_orders services ∷ []) ≡ parent_orders services ++ ((record { 0 = length (parent_orders services) }) ∷ []) ∷ []
parents_more services = own_more (λ orders. orders.parents) services refl

-- ---- the relations of the records

order_is : (list_of : Orders → List ServiceNo) (services : List Orders) (s : ℕ) → slice_index_or (map list_of services) s [] ≡ option_map_or list_of (slice_get services s) []
order_is list_of [] s = refl
order_is list_of (orders ∷ services) zero = refl
order_is list_of (orders ∷ services) (suc s) = order_is list_of services s

-- what is known of the tags of a service is the same of the tables and of the records
pub relations_same : (v : Related) (r : Records) → v.siblings.orders ≡ sibling_orders r.services → v.parents.orders ≡ parent_orders r.services → v.siblings.rows ≡ r.siblings → v.parents.rows ≡ r.parents
    → (s : ℕ) → relations_at v s ≡ all_relations r s
relations_same v r ordered parents_ordered siblings parents s =
    let first : slice_index_or v.siblings.orders s [] ≡ order_at r s (λ orders. orders.siblings) = ap (λ orders. slice_index_or orders s []) ordered ∙ order_is (λ orders. orders.siblings) r.services s in
    let second : slice_index_or v.parents.orders s [] ≡ order_at r s (λ orders. orders.parents) = ap (λ orders. slice_index_or orders s []) parents_ordered ∙ order_is (λ orders. orders.parents) r.services s in
    λ i. record { sibling_order = first i; parent_order = second i; siblings = siblings i; parents = parents i }

pub ideal_same : (t : TablesView) (service : ServiceNo) (tag : TagNo) → t.relations.siblings.orders ≡ sibling_orders t.services
    → ideal_in t.relations.siblings service.0 tag.0 ≡ ideal_number (records_of t) service tag
ideal_same t service tag ordered =
    ap (λ (orders : List (List ServiceNo)). ideal (slice_index_or orders service.0 []) t.relations.siblings.rows tag.0) ordered
    ∙ ap (λ (order : List ServiceNo). ideal order t.relations.siblings.rows tag.0) (order_is (λ orders. orders.siblings) t.services service.0)

-- ---- pairs

-- no good tag is found where none stands
pub no_good : (r : Records) (service : ServiceNo) (text : List ℕ) → option_map (text_of r) (good_number r service text) ≡ None → good_number r service text ≡ None
no_good r service text is = by (good_number r service text) is where
  by : (found : Option ℕ) → option_map (text_of r) found ≡ None → found ≡ None
  by None e = refl
  by (Some good) e = absurd (cc e)

-- the good tag that is known is told
pub good_known : (r : Records) (service : ServiceNo) (text shown : List ℕ) → option_map (text_of r) (good_number r service text) ≡ Some shown
    → (not (is_some (good_number r service text)) ≡ false) × (good_text r service text ≡ shown)
good_known r service text shown told = by (good_number r service text) refl told where
  by : (found : Option ℕ) → good_number r service text ≡ found → option_map (text_of r) found ≡ Some shown → (not (is_some (good_number r service text)) ≡ false) × (good_text r service text ≡ shown)
  by None is e = absurd (cc e)
  by (Some good) is e =
      let same : text_of r good ≡ shown = cc e in
      (ap (λ (found : Option ℕ). not (is_some found)) is, ap (λ (found : Option ℕ). option_map_or (text_of r) found []) is ∙ same)

-- a pair that is ready to be recorded or removed
pub pair_prepared : (t : TablesView) (c : Change) (plan : PlannedPair) (answer : Answer) → length (with_both t.tags.texts plan.pair.first plan.pair.second) ≤ MAX_TAGS → 2 ≤ t.tags.spare
    → IsPlanFor plan.relations t.relations → Fits (records_of t) → does (records_of t) c ≡ Ok false → answer_to (records_of t) c ≡ answer
    → effect (records_of t) c ≡ planned_records t plan.relations plan.pair → words_brought (records_of t) c ≡ [] → IsPrepared c t (prepared.Ready (plans.Pair plan) answer)
pair_prepared t c plan answer few room planned fits done told leads none = (
  done,
  told,
  record { few = few; room = room; planned = planned; fits = changes_keep_fit (records_of t) c done fits; leads = leads },
  sym none,
)

-- two texts that are numbered stay so
pub both_known : (r : Records) (first second : List ℕ) → has_tag r first ≡ true → has_tag r second ≡ true → with_both r.tags first second ≡ r.tags
both_known r first second known also =
    ap (λ (tags : List (List ℕ)). with_tag tags second) (known_stays first r.tags ((numbered_there first r.tags).0 known)) ∙ known_stays second r.tags ((numbered_there second r.tags).0 also)

-- behind a text that is numbered a text has its own number
pub second_known : (r : Records) (first second : List ℕ) → has_tag r first ≡ true → number_behind first second r.tags ≡ (numbered r second).0
second_known r first second known = ap (number_or_next second) (known_stays first r.tags ((numbered_there first r.tags).0 known))

-- the number of a text that is numbered is below theirs
pub known_below : (r : Records) (text : List ℕ) → has_tag r text ≡ true → (numbered r text).0 < length r.tags
known_below r text known = subst (λ (tags : List (List ℕ)). (numbered r text).0 < length tags) (known_stays text r.tags ((numbered_there text r.tags).0 known)) (next_within text r.tags)

-- a new number is that of the new text
new_number : (text : List ℕ) (texts : List (List ℕ)) (k : ℕ) → length texts ≤ k → k < length (with_tag texts text) → k ≡ number_or_next text texts
new_number text texts k low high = by (number_of text texts) refl
  where
    by : (found : Option ℕ) → number_of text texts ≡ found → k ≡ number_or_next text texts
    by None is = let next = unnumbered_next text texts is in let one = length-with_tag text texts in omega (arith, next, low, high, one)
    by (Some m) is = let same = ap length (numbered_known text texts m is) in absurd (omega (arith, same, low, high))

-- a new number of a pair is that of its first or its second text
pub new_of_pair : (r : Records) (pair : TagPair) (k : ℕ) → length r.tags ≤ k → k < length (with_both r.tags pair.first pair.second) → (k ≡ (pair_tags r pair).first.0) ⊎ (k ≡ (pair_tags r pair).second.0)
new_of_pair r pair k low high = elim (cases_lt k (length (with_tag r.tags pair.first))) [
  | inl before ↦ inl (new_number pair.first r.tags k low before)
  | inr behind ↦ inr (new_number pair.second (with_tag r.tags pair.first) k behind high)
]

-- ---- texts

-- the text of the good tag that is found
pub found_text : (r : Records) (service : ServiceNo) (text shown : List ℕ) (bad good : ℕ) → Some bad ≡ number_of text r.tags → Some good ≡ good_of (pairs_of r.siblings service) bad →
    slice_get r.tags good ≡ Some shown → Some shown ≡ option_map (text_of r) (good_number r service text)
found_text r service text shown bad good is_bad is_good there =
    let at : text_of r good ≡ shown = get_or_from_slice_get r.tags good shown [] there in
    ap Some (sym at) ∙ ap (option_map (text_of r)) is_good
    ∙ ap (λ (found : Option ℕ). option_map (text_of r) (option_and_then (λ bad. good_of (pairs_of r.siblings service) bad) found)) is_bad

pub no_number : (r : Records) (service : ServiceNo) (text : List ℕ) → None ≡ number_of text r.tags → None ≡ option_map (text_of r) (good_number r service text)
no_number r service text none = ap (λ (found : Option ℕ). option_map (text_of r) (option_and_then (λ bad. good_of (pairs_of r.siblings service) bad) found)) none

pub no_good_found : (r : Records) (service : ServiceNo) (text : List ℕ) (bad : ℕ) → Some bad ≡ number_of text r.tags → None ≡ good_of (pairs_of r.siblings service) bad →
    None ≡ option_map (text_of r) (good_number r service text)
no_good_found r service text bad is_bad none =
    ap (option_map (text_of r)) none
    ∙ ap (λ (found : Option ℕ). option_map (text_of r) (option_and_then (λ bad. good_of (pairs_of r.siblings service) bad) found)) is_bad

-- whether the pair stands, by the text of the good tag that is found
stands_by : (r : Records) (second : List ℕ) (found : Option ℕ) (shown : Option (List ℕ)) → shown ≡ option_map (text_of r) found →
    option_map_or (λ text. bytes_eq text second) shown false ≡ option_map_or (λ good. bytes_eq (text_of r good) second) found false
stands_by r second None shown is = ap (λ (shown : Option (List ℕ)). option_map_or (λ text. bytes_eq text second) shown false) is
stands_by r second (Some good) shown is = ap (λ (shown : Option (List ℕ)). option_map_or (λ text. bytes_eq text second) shown false) is

pub pair_found : (r : Records) (pair : TagPair) (shown : Option (List ℕ)) → shown ≡ option_map (text_of r) (good_number r pair.service pair.first) →
    option_map_or (λ text. bytes_eq text pair.second) shown false ≡ is_met r (pair_stands pair)
pair_found r pair shown = stands_by r pair.second (good_number r pair.service pair.first) shown

-- a number that is found is below the number of tags
pub tag_below : (r : Records) (text : List ℕ) (tag : ℕ) → Some tag ≡ number_of text r.tags → tag < length r.tags
tag_below r text tag found =
    let known = numbered_known text r.tags tag (sym found) in
    let same = number_is text r.tags (number_of text r.tags) refl tag (sym found) in
    let within = next_within text r.tags in
    let longer = ap length known in
    omega (arith, same, within, longer)

-- ---- the texts of a pair's tags, once they are numbered

text_there : (text : List ℕ) (texts : List (List ℕ)) (k : ℕ) → k ≡ number_or_next text texts → slice_get (with_tag texts text) k ≡ Some text
text_there text texts k is = ap (slice_get (with_tag texts text)) is ∙ text_at_number text (with_tag texts text) (number_or_next text texts) (number_with_tag text texts)

pub text_first : (r : Records) (pair : TagPair) (k : ℕ) → k ≡ (pair_tags r pair).first.0 → pair.first ≡ slice_index_or (with_both r.tags pair.first pair.second) k []
text_first r pair k is =
    let number : number_of pair.first (with_both r.tags pair.first pair.second) ≡ Some (number_or_next pair.first r.tags) =
    number_stays pair.first pair.second (with_tag r.tags pair.first) (number_or_next pair.first r.tags) (number_with_tag pair.first r.tags) in
    let there = text_at_number pair.first (with_both r.tags pair.first pair.second) (number_or_next pair.first r.tags) number in
    sym (ap (λ (n : ℕ). slice_index_or (with_both r.tags pair.first pair.second) n []) is ∙ get_or_from_slice_get (with_both r.tags pair.first pair.second) (number_or_next pair.first r.tags) pair.first [] there)

pub text_second : (r : Records) (pair : TagPair) (k : ℕ) → length r.tags ≤ k → k < length (with_both r.tags pair.first pair.second) → (k ≡ (pair_tags r pair).first.0 → ⊥)
    → pair.second ≡ slice_index_or (with_both r.tags pair.first pair.second) k []
text_second r pair k low high other = elim (new_of_pair r pair k low high) [
  | inl first ↦ absurd (other first)
  | inr second ↦ sym (get_or_from_slice_get (with_both r.tags pair.first pair.second) k pair.second [] (text_there pair.second (with_tag r.tags pair.first) k second))
]

-- what is told of an ideal tag
pub ideal_asked : (t : TablesView) (service : ServiceNo) (text shown : List ℕ) (ancestors : List (List ℕ)) (tag ideal : TagNo) → has_service (records_of t) service ≡ true → Some tag.0 ≡ number_of text t.tags.texts
    → t.relations.siblings.orders ≡ sibling_orders t.services → ideal.0 ≡ ideal_in t.relations.siblings service.0 tag.0 → slice_get t.tags.texts ideal.0 ≡ Some shown
    → ancestors ≡ map (text_of (records_of t)) (ancestor_numbers (records_of t) service tag)
    → Ok (answers.Ideal (record { ideal = shown; ancestors = ancestors })) ≡ asked (records_of t) (queries.Ideal service text)
unfolding query_needs answer
ideal_asked t service text shown ancestors tag ideal there found ordered is at above =
    let r = records_of t in
    let known : has_tag r text ≡ true = ap (λ (number : Option ℕ). is_some number) (sym found) in
    let number : (numbered r text).0 ≡ tag.0 = number_is text r.tags (number_of text r.tags) refl tag.0 (sym found) in
    let same : ideal_number r service (numbered r text) ≡ ideal.0 = ap (λ (n : ℕ). ideal_number r service (record { 0 = n })) number ∙ sym (is ∙ ideal_same t service tag ordered) in
    let told : text_of r (ideal_number r service (numbered r text)) ≡ shown = ap (text_of r) same ∙ get_or_from_slice_get r.tags ideal.0 shown [] at in
    let higher : map (text_of r) (ancestor_numbers r service (numbered r text)) ≡ ancestors = ap (λ (n : ℕ). map (text_of r) (ancestor_numbers r service (record { 0 = n }))) number ∙ sym above in
    rw (there, known, told, higher) refl

-- the number of a text that is found
pub found_number : (r : Records) (text : List ℕ) (tag : ℕ) → Some tag ≡ number_of text r.tags → (numbered r text).0 ≡ tag
found_number r text tag found = number_is text r.tags (number_of text r.tags) refl tag (sym found)

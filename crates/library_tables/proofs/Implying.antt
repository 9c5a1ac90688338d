-- Whether a change would leave a tag that implies too many, as the relations tell it.
use Rattle.std.proofs.Common.{◌≡◌, ◌<◌, ◌≤◌, ◌+◌, ◌*◌, ℕ, zero, suc, Bool, true, false, not, ◌==◌, ◌&&◌, cond, Some, None, Option, option_map, [], ◌∷◌, ◌++◌, List, length, map, slice_get, get_or, take, arith, inl, inr, refl, ap, sym, subst, ◌∙◌}
use Rattle.std.specs.Prelude.{All, find, slice_index_or}
use Rattle.std.specs.List.{range_with_len}
use Rattle.std.specs.Option.{option_or}
use Rattle.media_types.specs.declared.numbers.ServiceNo.{ServiceNo}
use Rattle.media_types.specs.declared.numbers.TagNo.{TagNo}
use Rattle.media_base.specs.declared.refusal.Unmet.TheVariants as whys
use Rattle.parent_closure.specs.Reached.{has}
use Rattle.sibling_chains.specs.Clusters.{rows_within}
use Rattle.std.proofs.Math.Path.{fun_ext}
use Rattle.std.proofs.Math.Seq.{take-suc}
use Rattle.std.proofs.lemmas.Simd.{map-map}
use Rattle.std.proofs.lemmas.List.{get_or-map, length-map, map-append}
use Rattle.std.proofs.lemmas.Option.{get_or_from_slice_get}
use Rattle.std.proofs.lemmas.List.Elements.{All-filter, All-from_get_or}
use Rattle.std.proofs.lemmas.List.FromFn.{get_or-range_with_len, length-range_with_len}
use Rattle.parent_closure.specs.Ancestors.{Relations, ancestors, ideal_of, is_above, is_over, steps_of}
use Rattle.parent_closure.specs.LimitLaws.{AreBelow, over-ordered}
use Rattle.parent_closure.specs.Limits.{first_some, over_among, over_in, over_limit}
use Rattle.tag_relations.specs.declared.plans.OrderPlan.{OrderPlan}
use Rattle.tag_relations.specs.declared.plans.RelationPlan.{RelationPlan}
use Rattle.sibling_chains.specs.Known.{tags_of_two}
use Rattle.sibling_chains.specs.declared.relation_row.RelationRow.{RelationRow}
use Rattle.tag_relations.specs.Planning.{AreFew, IsPlanFor, after_orders}
use Rattle.tag_relations.specs.Planning.{after as relations_after}
use Rattle.tag_relations.specs.PlanLaws.{over-planned, over-reads}
use Rattle.tag_relations.specs.Related.{Related, relations_at}
use Rattle.tag_relations.specs.Related.{IsSame as AreSame}
use Rattle.tag_relations.specs.Work.{cluster_work}
use Rattle.tag_relations.specs.WorkLaws.{work-no-parent, work-no-sibling, work-one, work-parent, work-sibling, work-some}
use Rattle.tag_store.specs.Numbering.{Numbered}
use Rattle.media_base.specs.declared.change.TagPair.{TagPair}
use Rattle.media_base.specs.declared.reply.PairTags.{PairTags}
use Rattle.tag_types.specs.declared.limits.TheConstants.{MAX_RELATIONS, MAX_SERVICES, MAX_TAGS}
use Rattle.library_machine.specs.LimitLaws.{below_by}
use Rattle.library_machine.specs.Needs.{has_tag}
use Rattle.library_machine.specs.Records.{Fits, Records, all_relations, too_many}
use Rattle.library_machine.specs.RelatedLaws.{fit_more, grows, pair_there}
use Rattle.library_machine.specs.Relating.{ancestor_numbers, pair_tags, parent_place, place_of, row_of, text_of, with_both, with_parent, with_sibling, without_parent, without_sibling}
use Rattle.library_tables.specs.declared.tag_pairs.PlannedPair.{PlannedPair}
use Rattle.library_tables.specs.Counting.{pair_work, relation_reads}
use Rattle.library_tables.specs.Relations.{IsOrdered, IsTouching, LeadsPair, over_told, planned_records}
use Rattle.library_tables.specs.Tables.{AreInStep, TablesView, records_of}
use Rattle.library_tables.proofs.Pairing.{both_known, known_below, new_of_pair, relations_in_step, relations_same}

-- as many services as lists
pub services_counted : (t : TablesView) → AreInStep t → length t.relations.siblings.orders ≡ length t.services
services_counted t step = ap length step.ordered ∙ length-map t.services (λ orders. orders.siblings)

-- the relations tell which tag would imply too many, as the records after a pair do
pub over_is : (t : TablesView) (plan : RelationPlan) (pair : TagPair) (a b : ℕ) → AreInStep t → IsTouching plan pair t a b
    → over_among (length t.relations.siblings.orders) (length (with_both t.tags.texts pair.first pair.second)) (relations_at (relations_after plan t.relations)) plan.touched.items ≡ too_many (planned_records t plan pair)
over_is t plan pair a b step touching =
    let v = t.relations in
    let n = length t.tags.texts in
    let m = length (with_both t.tags.texts pair.first pair.second) in
    let within = touching.planned.within in
    let before : relations_at v ≡ all_relations (records_of t) = fun_ext (relations_same v (records_of t) step.ordered step.parents_ordered refl refl) in
    let after : relations_at (relations_after plan v) ≡ all_relations (planned_records t plan pair) =
    fun_ext (relations_same (relations_after plan v) (planned_records t plan pair) (within.sibling_orders ∙ step.ordered) (within.parent_orders ∙ step.parents_ordered) refl refl) in
    let none : over_limit (length v.siblings.orders) n (relations_at v) ≡ None =
    ap (λ (services : ℕ). over_limit services n (relations_at v)) (services_counted t step) ∙ ap (over_limit (length t.services) n) before ∙ step.fits.few_implied in
    sym (over-planned plan v touching.planned a b n m touching.touched touching.known_a touching.known_b (grows (records_of t) pair) touching.below_a touching.below_b
    (below_by (length t.services) n v.siblings.rows step.fits.siblings) (below_by (length t.services) n v.parents.rows step.fits.parents) touching.new (length v.siblings.orders) none)
    ∙ ap (λ (services : ℕ). over_limit services m (relations_at (relations_after plan v))) (services_counted t step) ∙ ap (over_limit (length t.services) m) after

-- and as they do after other orders
pub over_orders_is : (t : TablesView) (plan : OrderPlan) (after : Records) → AreInStep t → IsOrdered plan t after → plan.service.0 < length t.services
    → option_map (λ (tag : ℕ). (plan.service.0, tag)) (find (is_over (length t.tags.texts) (relations_at (after_orders plan t.relations) plan.service.0)) (range_with_len 0 (length t.tags.texts))) ≡ too_many after
over_orders_is t plan after step ordered there =
    let n = length t.tags.texts in
    ap (λ (R : Relations). option_map (λ (tag : ℕ). (plan.service.0, tag)) (find (is_over n R) (range_with_len 0 n))) (sym (ordered.relations plan.service.0))
    ∙ sym (over-ordered (length t.services) n plan.service.0 (all_relations (records_of t)) (all_relations after) there ordered.others step.fits.few_implied)
    ∙ ap (λ (services : ℕ). over_limit services n (all_relations after)) (sym ordered.count) ∙ ap (λ (tags : List (List ℕ)). over_limit (length after.services) (length tags) (all_relations after)) (sym ordered.tags)

-- ---- a tag that is found is one of the first

pub found_from : (test : ℕ → Bool) (n a t : ℕ) → find test (range_with_len a n) ≡ Some t → t < a + n
found_from test zero a t is = absurd (cc is)
found_from test (suc n) a t is = by (test a) is (found_from test n (a + 1) t)
  where
    by : (here : Bool) → cond here (Some a) (find test (range_with_len (a + 1) n)) ≡ Some t → (find test (range_with_len (a + 1) n) ≡ Some t → t < a + 1 + n) → t < a + suc n
    by true is rest = let same : a ≡ t = cc is in omega (arith, same)
    by false is rest = let lt = rest is in omega (arith, lt)

first_below : (services a n : ℕ) (R : ℕ → Relations) (s t : ℕ) → first_some (over_in n R (range_with_len 0 n)) (range_with_len a services) ≡ Some (s, t) → t < n
first_below zero a n R s t is = absurd (cc is)
first_below (suc services) a n R s t is = by (find (is_over n (R a)) (range_with_len 0 n)) refl is (first_below services (a + 1) n R s t)
  where
    by : (found : Option ℕ) → find (is_over n (R a)) (range_with_len 0 n) ≡ found
        → option_or (option_map (λ (t : ℕ). (a, t)) found) (first_some (over_in n R (range_with_len 0 n)) (range_with_len (a + 1) services)) ≡ Some (s, t)
        → (first_some (over_in n R (range_with_len 0 n)) (range_with_len (a + 1) services) ≡ Some (s, t) → t < n) → t < n
    by None none is rest = rest is
    by (Some k) found is rest =
        let pair : (a, k) ≡ (s, t) = cc is in
        let same : k ≡ t = ap (λ (p : ℕ × ℕ). p.1) pair in
        let less = found_from (is_over n (R a)) n 0 k found in
        omega (arith, less, same)

-- the tag that is told is there
pub over_below : (r : Records) (s t : ℕ) → too_many r ≡ Some (s, t) → t < length r.tags
over_below r = first_below (length r.services) 0 (length r.tags) (all_relations r)

-- ---- what is told

pub told_some : (r : Records) (service : ServiceNo) (tag : TagNo) (text : List ℕ) → too_many r ≡ Some (service.0, tag.0) → text ≡ text_of r tag.0 → Some (whys.TooManyImplied service text) ≡ over_told r
told_some r service tag text is same =
    ap (λ (text : List ℕ). Some (whys.TooManyImplied service text)) same
    ∙ sym (ap (option_map (λ (found : ℕ × ℕ). whys.TooManyImplied (record { 0 = found.0 }) (text_of r found.1))) is)

pub told_none : (r : Records) → too_many r ≡ None → None ≡ over_told r
told_none r is = sym (ap (option_map (λ (found : ℕ × ℕ). whys.TooManyImplied (record { 0 = found.0 }) (text_of r found.1))) is)

-- what the relations find is what is told of the records
pub found_is : (t : TablesView) (plan : RelationPlan) (pair : TagPair) (end : ℕ) (over : Option (ServiceNo × TagNo)) → AreInStep t → ((a b : ℕ) × IsTouching plan pair t a b)
    → end ≡ length (with_both t.tags.texts pair.first pair.second)
    → option_map (λ (found : ServiceNo × TagNo). (found.0.0, found.1.0)) over ≡ over_among (length t.relations.siblings.orders) end (relations_at (relations_after plan t.relations)) plan.touched.items
    → option_map (λ (found : ServiceNo × TagNo). (found.0.0, found.1.0)) over ≡ too_many (planned_records t plan pair)
found_is t plan pair end over step touching is first =
    first ∙ ap (λ (n : ℕ). over_among (length t.relations.siblings.orders) n (relations_at (relations_after plan t.relations)) plan.touched.items) is ∙ over_is t plan pair touching.0 touching.1 step touching.2

pub found_reads : (t : TablesView) (plan : RelationPlan) (pair : TagPair) (a b before now : ℕ) → AreInStep t → IsTouching plan pair t a b
    → now ≤ before + length t.relations.siblings.orders * (length plan.touched.items + 2 * length (rows_within (has plan.touched.items) t.relations.parents.rows))
    → now ≤ before + 16 * cluster_work t.relations.siblings.rows t.relations.parents.rows t.relations.siblings.tags a b
found_reads t plan pair a b before now step touching reads =
    let count = services_counted t step in
    let few : length t.relations.siblings.orders ≤ MAX_SERVICES = omega (arith, count, step.fits.tags.few_services) in
    let work = over-reads t.relations plan a b touching.planned touching.touched touching.known_a touching.known_b few in
    omega (arith, reads, work)

-- ---- the bounds

module _ (r : Records) (pair : TagPair) (fits : Fits r) (k : ℕ) where
  abbrev first : ℕ
  first = (pair_tags r pair).first.0

  abbrev second : ℕ
  second = (pair_tags r pair).second.0

  abbrev m : ℕ
  m = length (with_both r.tags pair.first pair.second)

  siblings_below : AreBelow m r.siblings
  siblings_below = below_by (length r.services) m r.siblings (fit_more (length r.services) (length r.tags) (length r.services) m r.siblings (omega arith) (grows r pair) fits.siblings)

  parents_below : AreBelow m r.parents
  parents_below = below_by (length r.services) m r.parents (fit_more (length r.services) (length r.tags) (length r.services) m r.parents (omega arith) (grows r pair) fits.parents)

  pub sibling_work : cluster_work r.siblings r.parents k first second ≤ pair_work (with_sibling r pair) (pair_tags r pair)
  sibling_work = let there = pair_there r pair in work-sibling r.siblings r.parents k m first second siblings_below parents_below there.0 (row_of r pair) there.1

  pub parent_work : cluster_work r.siblings r.parents k first second ≤ pair_work (with_parent r pair) (pair_tags r pair)
  parent_work = let there = pair_there r pair in work-parent r.siblings r.parents k m first second siblings_below parents_below there.0 (row_of r pair) there.1

  pub child_work : cluster_work r.siblings r.parents k first first ≤ pair_work (with_parent r pair) (pair_tags r pair)
  child_work = let one = work-one r.siblings r.parents k first second in omega (arith, one, parent_work)

  pub no_sibling_work : first < length r.tags → cluster_work r.siblings r.parents k first first ≤ pair_work (without_sibling r pair) (pair_tags r pair)
  no_sibling_work below =
      work-no-sibling r.siblings r.parents k (length r.tags) first second (below_by (length r.services) (length r.tags) r.siblings fits.siblings) (below_by (length r.services) (length r.tags) r.parents fits.parents) below (place_of r pair)

  pub no_parent_work : first < length r.tags → cluster_work r.siblings r.parents k first first ≤ pair_work (without_parent r pair) (pair_tags r pair)
  no_parent_work below =
      work-no-parent r.siblings r.parents k (length r.tags) first second (below_by (length r.services) (length r.tags) r.siblings fits.siblings) (below_by (length r.services) (length r.tags) r.parents fits.parents) below (parent_place r pair)

-- a look-up is within every bound
pub few_reads : (r : Records) (tags : PairTags) (before now : ℕ) → now ≤ before + 2 → now ≤ before + relation_reads r tags
unfolding relation_reads
few_reads r tags before now reads =
    let one = work-some r.siblings r.parents (length r.tags) tags.first.0 tags.second.0 in
    omega (arith, reads, one)

-- and so are so many for each of the clusters
pub more_reads : (r : Records) (tags : PairTags) (look work before now : ℕ) → look ≤ pair_work r tags → work ≤ pair_work r tags → now ≤ before + (2 * look + 23 * work) → now ≤ before + relation_reads r tags
unfolding relation_reads
more_reads r tags look work before now less le reads =
    let one = work-some r.siblings r.parents (length r.tags) tags.first.0 tags.second.0 in
    omega (arith, reads, one, less, le)

pub some_work : (r : Records) (tags : PairTags) → 1 ≤ pair_work r tags
some_work r tags = work-some r.siblings r.parents (length r.tags) tags.first.0 tags.second.0

-- ---- a plan that is ready

-- both tags of a pair get numbers below the limit
pub tags_below : (r : Records) (pair : TagPair) (tags : PairTags) → tags ≡ pair_tags r pair → length (with_both r.tags pair.first pair.second) ≤ MAX_TAGS → (tags.first.0 < MAX_TAGS) × (tags.second.0 < MAX_TAGS)
tags_below r pair tags same few =
    let there = pair_there r pair in
    rw same (omega (arith, there.0, few), omega (arith, there.1, few))

-- what is planned for a pair whose tags may be new touches their clusters
pub touching_new : (t : TablesView) (r : Records) (pair : TagPair) (tags : PairTags) (plan : RelationPlan) → records_of t ≡ r → tags ≡ pair_tags r pair → IsPlanFor plan t.relations
    → plan.touched.items ≡ tags_of_two t.relations.siblings tags.first.0 tags.second.0 → tags.first.0 < t.relations.siblings.tags → tags.second.0 < t.relations.siblings.tags
    → IsTouching plan pair t tags.first.0 tags.second.0
touching_new t r pair tags plan same is planned touched known_a known_b =
    let texts : t.tags.texts ≡ r.tags = ap (λ (r : Records). r.tags) same in
    let there = pair_there r pair in
    let a : tags.first.0 ≡ (pair_tags r pair).first.0 = ap (λ (p : PairTags). p.first.0) is in
    let b : tags.second.0 ≡ (pair_tags r pair).second.0 = ap (λ (p : PairTags). p.second.0) is in
    record {
      planned = planned;
      touched = touched;
      known_a = known_a;
      known_b = known_b;
      below_a = rw (texts, a) there.0;
      below_b = rw (texts, b) there.1;
      new = λ k low high.
          let lower : length r.tags ≤ k = rw (← texts) low in
          let higher : k < length (with_both r.tags pair.first pair.second) = rw (← texts) high in
          elim (new_of_pair r pair k lower higher) [ inl first ↦ inl (first ∙ sym a) | inr second ↦ inr (second ∙ sym b) ];
    }

-- and what is planned for one whose tags are known touches the cluster of the first
pub touching_known : (t : TablesView) (r : Records) (pair : TagPair) (plan : RelationPlan) → records_of t ≡ r → has_tag r pair.first ≡ true → has_tag r pair.second ≡ true → IsPlanFor plan t.relations
    → plan.touched.items ≡ tags_of_two t.relations.siblings (pair_tags r pair).first.0 (pair_tags r pair).first.0 → (pair_tags r pair).first.0 < t.relations.siblings.tags
    → IsTouching plan pair t (pair_tags r pair).first.0 (pair_tags r pair).first.0
touching_known t r pair plan same first second planned touched known =
    let texts : t.tags.texts ≡ r.tags = ap (λ (r : Records). r.tags) same in
    let both = both_known r pair.first pair.second first second in
    let below = known_below r pair.first first in
    record {
      planned = planned;
      touched = touched;
      known_a = known;
      known_b = known;
      below_a = rw (texts, both) below;
      below_b = rw (texts, both) below;
      new = λ k low high.
          let n = ap length both in
          let lower : length r.tags ≤ k = rw (← texts) low in
          let higher : k < length (with_both r.tags pair.first pair.second) = rw (← texts) high in
          absurd (omega (arith, n, lower, higher));
    }

-- ---- a pair is recorded or removed

-- there is room for its rows
pub leads_few : (t : TablesView) (plan : PlannedPair) (after : Records) → LeadsPair plan t after → AreFew (relations_after plan.relations t.relations)
leads_few t plan after leads = record {
  siblings = subst (λ (r : Records). length r.siblings ≤ MAX_RELATIONS) leads.leads leads.fits.siblings.few;
  parents = subst (λ (r : Records). length r.parents ≤ MAX_RELATIONS) leads.leads leads.fits.parents.few;
}

-- and the tables are in step then
pub pair_in_step : (t : TablesView) (plan : PlannedPair) (after : Records) (tags : Numbered) (relations : Related) → AreInStep t → LeadsPair plan t after
    → tags.texts ≡ with_both t.tags.texts plan.pair.first plan.pair.second → AreSame relations (relations_after plan.relations t.relations) → AreInStep (record t { tags = tags; relations = relations })
pair_in_step t plan after tags relations step leads texts same =
    let within = leads.planned.within in
    relations_in_step t step tags t.services relations
    (subst Fits (leads.leads ∙ rw (texts, same.siblings.rows, same.parents.rows) refl) leads.fits)
    (same.siblings.orders ∙ within.sibling_orders ∙ step.ordered) (same.parents.orders ∙ within.parent_orders ∙ step.parents_ordered)

pub pair_recorded : (t : TablesView) (plan : PlannedPair) (after : Records) (tags : Numbered) (relations : Related) → LeadsPair plan t after
    → tags.texts ≡ with_both t.tags.texts plan.pair.first plan.pair.second → AreSame relations (relations_after plan.relations t.relations) → records_of (record t { tags = tags; relations = relations }) ≡ after
pair_recorded t plan after tags relations leads texts same = rw (texts, same.siblings.rows, same.parents.rows) (sym leads.leads)

-- the records that a plan leads to
pub planned_is : (t : TablesView) (r : Records) (pair : TagPair) (plan : RelationPlan) (tags : List (List ℕ)) (siblings parents : List RelationRow) → records_of t ≡ r
    → with_both r.tags pair.first pair.second ≡ tags → (relations_after plan t.relations).siblings.rows ≡ siblings → (relations_after plan t.relations).parents.rows ≡ parents
    → planned_records t plan pair ≡ record r { tags = tags; siblings = siblings; parents = parents }
planned_is t r pair plan tags siblings parents same both rows parent_rows =
    ap (λ (x : Records). record x { tags = with_both x.tags pair.first pair.second; siblings = (relations_after plan t.relations).siblings.rows; parents = (relations_after plan t.relations).parents.rows }) same
    ∙ rw (both, rows, parent_rows) refl

-- the tags of a pair that are there are few
pub tags_few : (r : Records) (pair : TagPair) → Fits r → has_tag r pair.first ≡ true → has_tag r pair.second ≡ true → length (with_both r.tags pair.first pair.second) ≤ MAX_TAGS
tags_few r pair fits first second = subst (λ (tags : List (List ℕ)). length tags ≤ MAX_TAGS) (sym (both_known r pair.first pair.second first second)) fits.tags.few_tags

-- what is found among all tags is what is told after other orders
pub orders_found : (t : TablesView) (plan : OrderPlan) (after : Records) (found : Option ℕ) → AreInStep t → IsOrdered plan t after → plan.service.0 < length t.relations.siblings.orders
    → find (is_over (length t.tags.texts) (relations_at (after_orders plan t.relations) plan.service.0)) (range_with_len 0 (length t.tags.texts)) ≡ found
    → too_many after ≡ option_map (λ (tag : ℕ). (plan.service.0, tag)) found
orders_found t plan after found step ordered there is =
    let count = services_counted t step in
    sym (over_orders_is t plan after step ordered (omega (arith, there, count))) ∙ ap (option_map (λ (tag : ℕ). (plan.service.0, tag))) is

-- ---- the texts of tags

-- one more is told
pub texts_more : (texts : List (List ℕ)) (tags : List TagNo) (told : List (List ℕ)) (i : ℕ) (d : TagNo) (text : List ℕ) → i < length tags
    → told ≡ map (λ (tag : TagNo). slice_index_or texts tag.0 []) (take i tags) → slice_get texts (get_or tags i d).0 ≡ Some text
    → told ++ text ∷ [] ≡ map (λ (tag : TagNo). slice_index_or texts tag.0 []) (take (i + 1) tags)
texts_more texts tags told i d text lt is at =
    let next : suc i ≡ i + 1 = omega arith in
    let here : text ≡ slice_index_or texts (get_or tags i d).0 [] = sym (get_or_from_slice_get texts (get_or tags i d).0 text [] at) in
    ap (λ (told : List (List ℕ)). told ++ text ∷ []) is ∙ ap (λ (t : List ℕ). map (λ (tag : TagNo). slice_index_or texts tag.0 []) (take i tags) ++ t ∷ []) here
    ∙ sym (map-append (λ (tag : TagNo). slice_index_or texts tag.0 []) (take i tags) (get_or tags i d ∷ []))
    ∙ ap (map (λ (tag : TagNo). slice_index_or texts tag.0 [])) (sym (take-suc tags i d lt) ∙ ap (λ (n : ℕ). take n tags) next)

-- ---- the ancestors of a tag

-- they are there
pub ancestors_there : (r : Records) (service : ServiceNo) (tag : TagNo) (numbers : List TagNo) → map (λ (t : TagNo). t.0) numbers ≡ ancestor_numbers r service tag → All (λ (t : TagNo). t.0 < length r.tags) numbers
unfolding ancestors
ancestors_there r service tag numbers is =
    let below : All (λ n. n < length r.tags) (ancestor_numbers r service tag) =
    All-filter (λ b. not (b == ideal_of (all_relations r service.0) tag.0) && is_above (steps_of (all_relations r service.0)) (ideal_of (all_relations r service.0) tag.0) b) (λ n. n < length r.tags) (range_with_len 0 (length r.tags))
    (All-from_get_or (λ n. n < length r.tags) (range_with_len 0 (length r.tags)) 0
    (λ i h. omega (arith, get_or-range_with_len 0 (length r.tags) i 0 (omega (arith, h, length-range_with_len 0 (length r.tags))), h, length-range_with_len 0 (length r.tags)))) in
    each numbers (subst (All (λ n. n < length r.tags)) (sym is) below)
  where
    each : (numbers : List TagNo) → All (λ n. n < length r.tags) (map (λ (t : TagNo). t.0) numbers) → All (λ (t : TagNo). t.0 < length r.tags) numbers
    each numbers all = λ k d lt.
        let count = length-map numbers (λ (t : TagNo). t.0) in
        let at = all k d.0 (omega (arith, count, lt)) in
        subst (λ (n : ℕ). n < length r.tags) (get_or-map (λ (t : TagNo). t.0) numbers k d d.0 lt) at

-- and so are those that the relations tell
pub ancestors_same : (t : TablesView) (service : ServiceNo) (tag : TagNo) (end : ℕ) (numbers : List TagNo) → AreInStep t → end ≡ length t.tags.texts
    → map (λ (t : TagNo). t.0) numbers ≡ ancestors end (relations_at t.relations service.0) tag.0 → map (λ (t : TagNo). t.0) numbers ≡ ancestor_numbers (records_of t) service tag
ancestors_same t service tag end numbers step is told =
    told ∙ ap (λ (n : ℕ). ancestors n (relations_at t.relations service.0) tag.0) is
    ∙ ap (λ (R : Relations). ancestors (length t.tags.texts) R tag.0) (relations_same t.relations (records_of t) step.ordered step.parents_ordered refl refl service.0)

-- and so are their texts
pub ancestors_told : (t : TablesView) (service : ServiceNo) (tag : TagNo) (end : ℕ) (numbers : List TagNo) → AreInStep t → end ≡ length t.tags.texts
    → map (λ (t : TagNo). t.0) numbers ≡ ancestors end (relations_at t.relations service.0) tag.0
    → map (λ (tag : TagNo). slice_index_or t.tags.texts tag.0 []) numbers ≡ map (text_of (records_of t)) (ancestor_numbers (records_of t) service tag)
ancestors_told t service tag end numbers step is told =
    sym (map-map (text_of (records_of t)) (λ (t : TagNo). t.0) numbers) ∙ ap (map (text_of (records_of t))) (ancestors_same t service tag end numbers step is told)

-- No tag implies too many where a service or a tag comes.
use Rattle.std.proofs.Common.{◌≡◌, ◌∙◌, ℕ, zero, suc, ◌+◌, ◌<◌, ◌≤◌, ◌==◌, ◌&&◌, Bool, true, false, cond, Some, None, Option, List, [], ◌∷◌, ◌++◌, length, length-append, filter, map, slice_get, refl, ap, arith}
use Rattle.std.specs.List.{AllByRecursion}
use Rattle.std.specs.Option.{option_map_or}
use Rattle.std.proofs.lemmas.Bool.{ne_eqb}
use Rattle.std.proofs.lemmas.List.Elements.{recursion_from_All}
use Rattle.media_types.specs.declared.numbers.ServiceNo.{ServiceNo}
use Rattle.parent_closure.specs.LimitLaws.{AreBelow, over-served, over-tagged}
use Rattle.parent_closure.specs.Limits.{over_limit}
use Rattle.sibling_chains.specs.Recorded.{pair_of, pairs_in, pairs_of}
use Rattle.sibling_chains.specs.declared.relation_row.RelationRow.{RelationRow}
use Rattle.tag_store.specs.Serving.{next_orders}
use Rattle.tag_types.specs.declared.orders.Orders.{Orders}
use Rattle.library_machine.specs.Records.{Records, IsPairThere, PairsFit, all_relations, too_many}
use Rattle.library_machine.specs.Tagging.{with_service}

-- the tags of rows that fit are there
pub below_by : (s n : ℕ) (rows : List RelationRow) → PairsFit s n rows → AreBelow n rows
below_by s n rows fit = λ k d lt. let at = fit.there k d lt in (at.1, at.2)

-- more tags, without pairs
pub tags_few : (r : Records) (m : ℕ) → length r.tags ≤ m → PairsFit (length r.services) (length r.tags) r.siblings → PairsFit (length r.services) (length r.tags) r.parents
    → too_many r ≡ None → over_limit (length r.services) m (all_relations r) ≡ None
tags_few r m le siblings parents none =
    over-tagged (length r.services) (length r.tags) m (all_relations r) le (λ s. below_by (length r.services) (length r.tags) r.siblings siblings)
    (λ s. below_by (length r.services) (length r.tags) r.parents parents) none

-- ---- one more service

front_stays : (xs : List Orders) (x : Orders) (k : ℕ) → k < length xs → slice_get (xs ++ x ∷ []) k ≡ slice_get xs k
front_stays [] x k lt = absurd (omega (arith, lt))
front_stays (y ∷ xs) x zero lt = refl
front_stays (y ∷ xs) x (suc k) lt = front_stays xs x k (omega (arith, lt))

last_there : (xs : List Orders) (x : Orders) → slice_get (xs ++ x ∷ []) (length xs) ≡ Some x
last_there [] x = refl
last_there (y ∷ xs) x = last_there xs x

-- a service that isn't there has no pairs
none_of_it : (services tags s : ℕ) (rows : List RelationRow) → services ≤ s → AllByRecursion (IsPairThere services tags) rows → pairs_of rows (record { 0 = s }) ≡ []
none_of_it services tags s [] le all = refl
none_of_it services tags s (row ∷ rows) le all =
    let other : (row.service.0 == s) ≡ false = ne_eqb row.service.0 s (λ same. omega (arith, same, le, all.0.0)) in
    passed_over row.standing (row.service.0 == s) other (none_of_it services tags s rows le all.1)
  where
    passed_over : (stands here : Bool) → here ≡ false → pairs_of rows (record { 0 = s }) ≡ []
        → map pair_of (cond (stands && here) (row ∷ filter (λ row. row.standing && row.service.0 == s) rows) (filter (λ row. row.standing && row.service.0 == s) rows)) ≡ []
    passed_over true true other rest = absurd (cc other)
    passed_over false true other rest = absurd (cc other)
    passed_over true false other rest = rest
    passed_over false false other rest = rest

none_in_own : (services tags : ℕ) (rows : List RelationRow) → PairsFit services tags rows → pairs_in ((record { 0 = services }) ∷ []) rows ≡ []
none_in_own services tags rows fit =
    ap (λ pairs. pairs ++ []) (none_of_it services tags services rows (omega arith) (recursion_from_All (IsPairThere services tags) rows fit.there))

pub service_few : (r : Records) → PairsFit (length r.services) (length r.tags) r.siblings → PairsFit (length r.services) (length r.tags) r.parents
    → too_many r ≡ None → too_many (with_service r) ≡ None
service_few r siblings parents none =
    let n = length r.services in
    let more : length (with_service r).services ≡ n + 1 = omega (arith, length-append r.services) in
    let new = next_orders r.services in
    let order = λ (list_of : Orders → List ServiceNo). ap (λ (found : Option Orders). option_map_or list_of found []) (last_there r.services new) in
    let old : (s : ℕ) → s < n → all_relations (with_service r) s ≡ all_relations r s =
    λ s lt. ap (λ (found : Option Orders). record { sibling_order = option_map_or (λ orders. orders.siblings) found []; parent_order = option_map_or (λ orders. orders.parents) found []; siblings = r.siblings; parents = r.parents })
    (front_stays r.services new s lt) in
    ap (λ (services : ℕ). over_limit services (length r.tags) (all_relations (with_service r))) more
    ∙ over-served n (length r.tags) (all_relations r) (all_relations (with_service r)) old
    (ap (λ (order : List ServiceNo). pairs_in order r.siblings) (order (λ orders. orders.siblings)) ∙ none_in_own n (length r.tags) r.siblings siblings)
    (ap (λ (order : List ServiceNo). pairs_in order r.parents) (order (λ orders. orders.parents)) ∙ none_in_own n (length r.tags) r.parents parents) none

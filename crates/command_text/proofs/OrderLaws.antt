-- Lists of services that are an order: few, and none twice.
use Rattle.std.proofs.Common.{◌≡◌, ◌≢◌, ℕ, ◌+◌, ◌<◌, ◌≤◌, ◌==◌, nat_le, Bool, true, false, cond, List, [], ◌∷◌, ◌++◌, length, get_or, drop, Option, Some, None, option_map, option_and_then, refl, sym, ap, ◌∙◌, append_assoc, length-append, arith}
use Rattle.std.specs.Prelude.{Contains}
use Rattle.std.specs.Bool.{Decides}
use Rattle.std.specs.Cmp.{IsEquivalence}
use Rattle.std.specs.Set.{distinct_count}
use Rattle.std.proofs.Math.Seq.{get_or-append_seam}
use Rattle.std.proofs.lemmas.List.{get_or_append_left, get_or_default}
use Rattle.std.proofs.lemmas.List.Quantifiers.{all_pairs_push}
use Rattle.std.proofs.lemmas.Bool.{leb-true, and_parts, eqb-true}
use Rattle.std.proofs.lemmas.Bool.Decides.{Decides-eqb, nat_tests}
use Rattle.std.proofs.lemmas.Cmp.{nat_eq_equiv}
use Rattle.std.proofs.lemmas.Map.Made.{IsDistinct-from_count, distinct_count-from_IsDistinct, AllPairs-from_IsDistinct, IsDistinct-from_AllPairs}
use Rattle.media_types.specs.declared.numbers.ServiceNo.{ServiceNo}
use Rattle.tag_types.specs.ServiceLists.{AreDistinct}
use Rattle.tag_types.specs.declared.limits.TheConstants.{MAX_SERVICES}
use Rattle.serde_json.specs.View.{view, items_view}
use Rattle.serde_json.specs.declared.value.Value.{Value}
use Rattle.command_text.specs.Forms.{each_of, service_in, is_same_service, is_order, as_order, order_of}
use Rattle.command_text.proofs.EachLaws.{IsReadTo, read_more, read_stops, read_all}

same_service : (a b : ServiceNo) → Decides (is_same_service a b) (a ≡ b)
same_service a b = (
  λ same. ap (λ (n : ℕ). record { 0 = n }) ((Decides-eqb a.0 b.0).0 same),
  λ same. (Decides-eqb a.0 b.0).1 (ap (λ (service : ServiceNo). service.0) same),
)

services_alike : IsEquivalence is_same_service
services_alike = record {
  refl = λ a. nat_eq_equiv.refl a.0;
  symm = λ a b. nat_eq_equiv.symm a.0 b.0;
  congr = λ a b c. nat_eq_equiv.congr a.0 b.0 c.0;
}

pub is_order-true : (services : List ServiceNo) → is_order services ≡ true → (length services ≤ MAX_SERVICES) × AreDistinct services
is_order-true services passes =
    let parts = and_parts (nat_le (length services) MAX_SERVICES) (distinct_count is_same_service services == length services) passes in (
      leb-true (length services) MAX_SERVICES parts.0,
      AllPairs-from_IsDistinct same_service services (IsDistinct-from_count services_alike services (eqb-true (distinct_count is_same_service services) (length services) parts.1)),
    )

pub is_order-of : (services : List ServiceNo) → length services ≤ MAX_SERVICES → AreDistinct services → is_order services ≡ true
is_order-of services few distinct =
    let count = distinct_count-from_IsDistinct services_alike services (IsDistinct-from_AllPairs same_service services distinct) in
    grind (arith, nat_tests, count)

-- ---- read item by item

-- services that are an order so far, as the first items say them
pub record IsOrderTo (values : List Value) (i : ℕ) (before : List ServiceNo) : Type 0 where
  pub read : IsReadTo service_in values i before
  pub few : length before ≤ MAX_SERVICES
  pub distinct : AreDistinct before

is_false : (test : Bool) → (test ≡ true → ⊥) → test ≡ false
is_false true never = absurd (never refl)
is_false false never = refl

-- no more fit behind a full order
full : (before others : List ServiceNo) (x : ServiceNo) → length before ≡ MAX_SERVICES → is_order (before ++ x ∷ others) ≡ false
full before others x all =
    is_false (is_order (before ++ x ∷ others)) (λ passes.
    let few = (is_order-true (before ++ x ∷ others) passes).0 in
    let long = length-append before (x ∷ others) in
    omega (arith, all, few, long))

-- none that is in it comes again
twice : (before others : List ServiceNo) (x : ServiceNo) → Contains before x → is_order (before ++ x ∷ others) ≡ false
twice before others x there =
    is_false (is_order (before ++ x ∷ others)) (λ passes.
    let distinct = (is_order-true (before ++ x ∷ others) passes).1 in
    let long = length-append before (x ∷ others) in
    distinct there.0 (length before) x there.1 (omega (arith, long))
    (get_or_append_left before (x ∷ others) x there.0 there.1 ∙ there.2 ∙ sym (get_or-append_seam before x others x)))

-- where no order begins so, the items are none
none_begins : (before : List ServiceNo) → ((others : List ServiceNo) → is_order (before ++ others) ≡ false) → (found : Option (List ServiceNo))
    → option_and_then as_order (option_map (λ others. before ++ others) found) ≡ None
none_begins before refused None = refl
none_begins before refused (Some others) = ap (λ (test : Bool). cond test (Some (before ++ others)) None) (refused others)

module _ (values : List Value) (i : ℕ) (before : List ServiceNo) (value : Value) (x : ServiceNo) (within : i < length values) (is : value ≡ get_or values i value) (here : Some x ≡ service_in (view value)) where
  order_refused : IsReadTo service_in values i before → ((others : List ServiceNo) → is_order (before ++ x ∷ others) ≡ false) → order_of (items_view values) ≡ None
  order_refused so_far refused =
      ap (option_and_then as_order) (read_more service_in values i before value within is x here so_far).whole
      ∙ none_begins (before ++ x ∷ []) (λ others. ap is_order (append_assoc before (x ∷ []) others) ∙ refused others) (each_of service_in (items_view (drop (i + 1) values)))

  pub order_full : IsOrderTo values i before → length before ≡ MAX_SERVICES → order_of (items_view values) ≡ None
  order_full so_far all = order_refused so_far.read (λ others. full before others x all)

  pub order_twice : IsOrderTo values i before → Contains before x → order_of (items_view values) ≡ None
  order_twice so_far there = order_refused so_far.read (λ others. twice before others x there)

  -- one more
  pub order_more : IsOrderTo values i before → length before ≢ MAX_SERVICES → ¬ (Contains before x) → IsOrderTo values (i + 1) (before ++ x ∷ [])
  order_more so_far room new = record {
    read = read_more service_in values i before value within is x here so_far.read;
    few = let long = length-append before (x ∷ []) in omega (arith, so_far.few, room, long);
    distinct = all_pairs_push (λ a b. a ≢ b) before x so_far.distinct (λ k d inside same. new (k, inside, get_or_default before k x d inside ∙ same));
  }

pub order_stops : (values : List Value) (i : ℕ) (before : List ServiceNo) (value : Value) → i < length values → value ≡ get_or values i value
    → None ≡ service_in (view value) → IsOrderTo values i before → order_of (items_view values) ≡ None
order_stops values i before value within is here so_far =
    ap (option_and_then as_order) (read_stops service_in values i before value within is here so_far.read)

pub order_read : (values : List Value) (i : ℕ) (before : List ServiceNo) → length values ≤ i → IsOrderTo values i before → order_of (items_view values) ≡ Some before
order_read values i before past so_far =
    ap (option_and_then as_order) (read_all service_in values i before past so_far.read)
    ∙ ap (λ (test : Bool). cond test (Some before) None) (is_order-of before so_far.few so_far.distinct)

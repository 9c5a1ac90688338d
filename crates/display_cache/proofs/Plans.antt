-- What is displayed once a plan is carried out.
use Rattle.std.proofs.Common.{◌≡◌, ◌∙◌, ◌+◌, ◌-◌, ◌*◌, ◌<◌, ◌≤◌, ◌++◌, ℕ, suc, Bool, true, false, cond, ltb, List, [], ◌∷◌, length, get_or, replicate, Option, None, refl, sym, ap, subst, inl, inr, arith, All}
use Rattle.std.specs.List.{AllByRecursion}
use Rattle.std.specs.List.Sorted.{IsStrictlySortedBy}
use Rattle.std.specs.Map.{keys_of}
use Rattle.std.proofs.lemmas.Bool.{cases_lt, lt-ltb, le-ltb, ne_eqb}
use Rattle.std.proofs.lemmas.List.{get_or-append_right, get_or-replicate, get_or_past, length-append, length-replicate}
use Rattle.std.proofs.Math.ListN.{get_or-append}
use Rattle.std.proofs.lemmas.List.Elements.{All-from_recursion, recursion_from_All}
use Rattle.spare_tables.specs.Keys.{value_of}
use Rattle.spare_tables.specs.Order.{pair_cmp, pair_exact, triple_cmp, triple_exact}
use Rattle.spare_tables.specs.PairLaws.{pair_order}
use Rattle.tag_types.specs.declared.limits.TheConstants.{MAX_SERVICES}
use Rattle.tag_types.specs.declared.map_state.MapState.{MapState}
use Rattle.tag_store.specs.Mapped.{Ascend, Row, state_of, with_state}
use Rattle.tag_store.specs.MappedLaws.{state-this, triple_order}
use Rattle.display_cache.specs.Cache.{Keeps, Support, nothing, unit_of}
use Rattle.display_cache.specs.Changing.{Alike, AreDistinct}
use Rattle.display_cache.specs.Displayed.{DisplayView, IsOf, after, cache_of, records_in}
use Rattle.display_cache.specs.Drafting.{DraftView, TablesView, cache_after, overlaid}
use Rattle.display_cache.specs.GrowingLaws.{tag-more}
use Rattle.display_cache.specs.Placing.{IsPlaced}
use Rattle.display_cache.specs.Recorded.{applied, is_live, list_place, or_alone, world_of}
use Rattle.display_cache.specs.Shown.{World, has}
use Rattle.display_cache.specs.SwitchLaws.{alike-keep, mapping-place}
use Rattle.display_cache.proofs.Drafts.{cache-ext}
use Rattle.display_cache.proofs.Values.{found-with_values}

-- the rows of a draft and of the tables ascend
pub record AreInOrder (draft : DraftView) (tables : TablesView) : Type 0 where
  pub supports : IsStrictlySortedBy triple_cmp (keys_of draft.supports)
  pub counts : IsStrictlySortedBy pair_cmp (keys_of draft.counts)
  pub old_supports : IsStrictlySortedBy triple_cmp (keys_of tables.supports)
  pub old_counts : IsStrictlySortedBy pair_cmp (keys_of tables.counts)

-- what is displayed of these tables
abbrev pub displayed : TablesView → ℕ → List (List ℕ) → List ℕ → DisplayView
displayed tables rows lists gone = record { supports = tables.supports; counts = tables.counts; rows = rows; lists = lists; gone = gone }

-- the cache once a plan is carried out is that of its draft
pub cache-after : (draft : DraftView) (tables : TablesView) (rows : ℕ) (lists : List (List ℕ)) (gone : List ℕ) (tag : Bool) (mark : Option (ℕ × Bool)) → AreInOrder draft tables
    → cache_of (after (record { cache = draft; new_tag = tag; live = mark }) (displayed tables rows lists gone)) ≡ cache_after draft tables
unfolding after
cache-after draft tables rows lists gone tag mark order =
    cache-ext (cache_of (after (record { cache = draft; new_tag = tag; live = mark }) (displayed tables rows lists gone))) (cache_after draft tables)
    (λ s f x. found-with_values triple_order triple_exact draft.supports tables.supports order.supports order.old_supports (s, f, x))
    (λ s x. ap (λ (u : Support). u.current) (found-with_values pair_order pair_exact draft.counts tables.counts order.counts order.old_counts (s, x)))
    (λ s x. ap (λ (u : Support). u.pending) (found-with_values pair_order pair_exact draft.counts tables.counts order.counts order.old_counts (s, x)))
    refl

-- an empty draft changes nothing
pub cache-before : (draft : DraftView) (tables : TablesView) (rows : ℕ) (lists : List (List ℕ)) (gone : List ℕ)
    → draft.supports ≡ [] → draft.counts ≡ [] → draft.rows ≡ rows → cache_after draft tables ≡ cache_of (displayed tables rows lists gone)
cache-before draft tables rows lists gone supports counts same = cache-ext (cache_after draft tables) (cache_of (displayed tables rows lists gone))
    (λ s f x. ap (λ list. overlaid (value_of triple_cmp list (s, f, x)) (value_of triple_cmp tables.supports (s, f, x))) supports)
    (λ s x. ap (λ list. (overlaid (value_of pair_cmp list (s, x)) (value_of pair_cmp tables.counts (s, x))).current) counts)
    (λ s x. ap (λ list. (overlaid (value_of pair_cmp list (s, x)) (value_of pair_cmp tables.counts (s, x))).pending) counts)
    same

-- a mapping that is planned, as the body comes by it
pub record IsMappingPlan (tables : TablesView) (rows : ℕ) (lists : List (List ℕ)) (gone : List ℕ) (s t f : ℕ) (was now : Option MapState) (draft planned : DraftView) : Type 0 where
  pub order : AreInOrder planned tables
  pub supports : draft.supports ≡ []
  pub counts : draft.counts ≡ []
  pub same_rows : draft.rows ≡ rows
  pub service : s < MAX_SERVICES
  pub live : Bool
  pub live_is : live ≡ is_live gone f
  pub list : List ℕ
  pub list_is : list ≡ applied lists s t
  pub keeps : (W V : World) → IsPlaced W V s t f live (unit_of was) (unit_of now) list list
      → Keeps MAX_SERVICES W (cache_after draft tables) → Keeps MAX_SERVICES V (cache_after planned tables)

pub mapping-after : (tables : TablesView) (rows : ℕ) (lists : List (List ℕ)) (gone : List ℕ) (s t f : ℕ) (was now : Option MapState) (draft planned : DraftView)
    → IsMappingPlan tables rows lists gone s t f was now draft planned
    → (n m : ℕ) (mappings : List Row) → IsOf n m mappings (displayed tables rows lists gone) → Ascend mappings → t < n → f < m → state_of mappings s t f ≡ was
    → IsOf n m (with_state mappings s t f now) (after (record { cache = planned; new_tag = false; live = None }) (displayed tables rows lists gone))
unfolding after
mapping-after tables rows lists gone s t f was now draft planned plan n m mappings is sorted ht hf has_state =
    let v : DisplayView = displayed tables rows lists gone in
    let W : World = world_of (records_in n m mappings v) in
    let V : World = world_of (records_in n m (with_state mappings s t f now) v) in
    let place : IsPlaced W V s t f plan.live (unit_of was) (unit_of now) plan.list plan.list = record {
      differ = mapping-place (records_in n m mappings v) s t f now sorted;
      service = plan.service;
      tag = ht;
      file = hf;
      mark = sym plan.live_is;
      gave = ap unit_of (sym has_state);
      gives = ap unit_of (sym (state-this mappings s t f now sorted));
      before = plan.list_is;
      after = plan.list_is;
      old_distinct = subst AreDistinct (sym plan.list_is) (is.distinct s t ht);
      new_distinct = subst AreDistinct (sym plan.list_is) (is.distinct s t ht);
      old_there = subst (λ l. All (λ x. x < n) l) (sym plan.list_is) (is.there s t ht);
      new_there = subst (λ l. All (λ x. x < n) l) (sym plan.list_is) (is.there s t ht);
    } in
    let start : Keeps MAX_SERVICES W (cache_after draft tables) =
    subst (Keeps MAX_SERVICES W) (sym (cache-before draft tables rows lists gone plan.supports plan.counts plan.same_rows)) is.kept in
    record {
      tags = is.tags;
      distinct = is.distinct;
      there = is.there;
      kept = subst (Keeps MAX_SERVICES V) (sym (cache-after planned tables rows lists gone false None plan.order)) (plan.keeps W V place start);
    }

-- ---- one tag more
-- none of the tags below is the next one
has-below : (n : ℕ) (list : List ℕ) → AllByRecursion (λ x. x < n) list → has list n ≡ false
has-below n [] all = refl
has-below n (x ∷ list) all = rw (ne_eqb n x (λ same. omega (arith, same, all.0))) (has-below n list all.1)

more : (n : ℕ) (list : List ℕ) → AllByRecursion (λ x. x < n) list → AllByRecursion (λ x. x < n + 1) list
more n [] all = tt
more n (x ∷ list) all = (omega (arith, all.0), more n list all.1)

-- empty lists behind the others are as none
pub applied-more : (lists : List (List ℕ)) (s t : ℕ) → applied (lists ++ replicate MAX_SERVICES []) s t ≡ applied lists s t
applied-more lists s t =
    ap (λ list. cond (ltb s MAX_SERVICES) (or_alone t list) (t ∷ [])) (same (list_place s t))
  where
    blank : (i : ℕ) → get_or {A = List ℕ} (replicate MAX_SERVICES []) i [] ≡ []
    blank i = elim (cases_lt i MAX_SERVICES) [
      | inl within ↦ get_or-replicate MAX_SERVICES i [] [] within
      | inr past ↦ get_or_past (replicate MAX_SERVICES []) i [] (let long = length-replicate {A = List ℕ} MAX_SERVICES [] in omega (arith, long, past))
    ]

    same : (i : ℕ) → get_or (lists ++ replicate MAX_SERVICES []) i [] ≡ get_or lists i []
    same i = elim (cases_lt i (length lists)) [
      | inl within ↦ get_or-append lists (replicate MAX_SERVICES []) [] i within
      | inr past ↦ get_or-append_right lists (replicate MAX_SERVICES []) (length lists) i [] refl past ∙ blank (i - length lists) ∙ sym (get_or_past lists i [] past)
    ]

-- a tag that isn't there has itself alone
pub applied-past : (lists : List (List ℕ)) (n s t : ℕ) → length lists ≡ MAX_SERVICES * n → n ≤ t → applied lists s t ≡ t ∷ []
applied-past lists n s t long past =
    let none : get_or lists (list_place s t) [] ≡ [] = get_or_past lists (list_place s t) [] (omega (arith, long, past)) in
    elim (cases_lt s MAX_SERVICES) [
      | inl low ↦ rw (lt-ltb s MAX_SERVICES low) (ap (or_alone t) none)
      | inr high ↦ rw (le-ltb s MAX_SERVICES high) refl
    ]

pub tag-after : (tables : TablesView) (rows : ℕ) (lists : List (List ℕ)) (gone : List ℕ) (n m : ℕ) (mappings : List Row) → IsOf n m mappings (displayed tables rows lists gone)
    → ((s f : ℕ) → state_of mappings s n f ≡ None)
    → IsOf (n + 1) m mappings (after (record { cache = record { supports = []; counts = []; rows = rows }; new_tag = true; live = None }) (displayed tables rows lists gone))
unfolding after
tag-after tables rows lists gone n m mappings is unmapped =
    let v : DisplayView = displayed tables rows lists gone in
    let w : DisplayView = displayed tables rows (lists ++ replicate MAX_SERVICES []) gone in
    let old : World = world_of (records_in n m mappings v) in
    let grown : World = record old { tags = suc n } in
    let new : World = world_of (records_in (n + 1) m mappings w) in
    let more_tags : Keeps MAX_SERVICES grown (cache_of v) = tag-more MAX_SERVICES old (cache_of v) is.kept unmapped
    (λ s f t lt. has-below n (applied lists s t) (recursion_from_All (λ x. x < n) (applied lists s t) (is.there s t lt))) in
    let alike : Alike grown new = record {
      tags = omega arith;
      files = refl;
      live = refl;
      given = λ a b y u. ap (λ l. cond (has l y) (unit_of (state_of mappings a u b)) nothing) (applied-more lists a u);
    } in
    record {
      tags = let long = length-append lists (replicate MAX_SERVICES []) in let eight = length-replicate {A = List ℕ} MAX_SERVICES [] in omega (arith, long, eight, is.tags);
      distinct = λ s t lt. subst AreDistinct (sym (applied-more lists s t)) (distinct s t lt);
      there = λ s t lt. subst (λ l. All (λ x. x < n + 1) l) (sym (applied-more lists s t)) (All-from_recursion (λ x. x < n + 1) (applied lists s t) (there s t lt));
      kept = alike-keep MAX_SERVICES grown new (cache_of v) alike more_tags;
    }
  where
    distinct : (s t : ℕ) → t < n + 1 → AreDistinct (applied lists s t)
    distinct s t lt = elim (cases_lt t n) [
      | inl old ↦ is.distinct s t old
      | inr new ↦ subst AreDistinct (sym (applied-past lists n s t is.tags new)) (refl, tt)
    ]

    there : (s t : ℕ) → t < n + 1 → AllByRecursion (λ x. x < n + 1) (applied lists s t)
    there s t lt = elim (cases_lt t n) [
      | inl old ↦ more n (applied lists s t) (recursion_from_All (λ x. x < n) (applied lists s t) (is.there s t old))
      | inr new ↦ subst (AllByRecursion (λ x. x < n + 1)) (sym (applied-past lists n s t is.tags new)) (lt, tt)
    ]

-- Clusters that are folded anew, and what it makes of the ends of all services.
use Rattle.std.proofs.Common.{◌≡◌, ◌∙◌, ℕ, ◌<◌, ◌≤◌, ◌==◌, ◌||◌, ◌&&◌, Bool, true, false, cond, List, [], ◌∷◌, ◌++◌, length, map, filter, get_or, set, ltb, All, Option, Some, None, IsSome, refl, sym, ap, subst, inl, inr, arith}
use Rattle.std.proofs.Math.Path.{fun_ext}
use Rattle.std.specs.List.{AllByRecursion, list_any, range_with_len}
use Rattle.std.specs.Option.{ForSome, option_map}
use Rattle.std.proofs.lemmas.Bool.{cases_eq, cases_lt, ne_eqb, eq-eqb, eqb-true, false≢true, lt-ltb}
use Rattle.std.proofs.lemmas.List.{append_assoc, get_or_append_left, get_or_past, get_or-set_same, get_or-set_other, length_push, map-append}
use Rattle.std.proofs.lemmas.List.Elements.{All-weaker, recursion_from_All, filter-append, filter_agree, filter_passes}
use Rattle.media_types.specs.declared.numbers.ServiceNo.{ServiceNo}
use Rattle.sibling_chains.specs.declared.cluster.Cluster.{Cluster}
use Rattle.sibling_chains.specs.declared.relation_row.RelationRow.{RelationRow}
use Rattle.sibling_chains.specs.Clustered.{Clustered, IsClusterOf, all_pairs, is_of_two, label_of, rows_but}
use Rattle.sibling_chains.specs.ClusterLaws.{alone, row-added, row-removed, rows-closed}
use Rattle.sibling_chains.specs.Clusters.{IsClosed, in_cluster, rows_within}
use Rattle.sibling_chains.specs.Ends.{at, end_beside}
use Rattle.sibling_chains.specs.Following.{Pair, good_of, ideal_by}
use Rattle.sibling_chains.specs.Known.{AreEndsFor, AreFolded, rows_with}
use Rattle.sibling_chains.specs.LabelLaws.{labels-least}
use Rattle.sibling_chains.specs.Recorded.{ideal, no_row, pair_of, pairs_of, removed_at, standing_at, standing_place}
use Rattle.sibling_chains.proofs.Gathered.{rows-counted}
use Rattle.sibling_chains.specs.NumberLaws.{filter-by-place}
use Rattle.sibling_chains.proofs.Joining.{of-first, tied-set}
use Rattle.sibling_chains.specs.RowLaws.{first-removed, length-removed, removed-past}
use Rattle.sibling_chains.proofs.Places.{standing-first, standing-good, standing-none, standing-within}

-- ---- the rows that are read
first-but : (gone : Option ℕ) (rows : List RelationRow) (k : ℕ) → (get_or (rows_but gone rows) k no_row).first.0 ≡ (get_or rows k no_row).first.0
first-but None rows k = refl
first-but (Some n) rows k = first-removed n k rows

length-but : (gone : Option ℕ) (rows : List RelationRow) → length (rows_but gone rows) ≡ length rows
length-but None rows = refl
length-but (Some n) rows = length-removed n rows

pub but-standing : (s b : ℕ) (rows : List RelationRow) → rows_but (standing_at s b rows) rows ≡ removed_at (standing_place s b rows) rows
but-standing s b rows = by (standing_at s b rows) refl
  where
    by : (o : Option ℕ) → standing_at s b rows ≡ o → rows_but o rows ≡ removed_at (standing_place s b rows) rows
    by None e = sym (removed-past (standing_place s b rows) rows (omega (arith, (standing-none s b rows e).0)))
    by (Some n) e = ap (λ m. removed_at m rows) (sym (standing-within s b rows n e).1)

module _ (v : Clustered) (a b : ℕ) (it : Cluster) (h : IsClusterOf v a b it) where
  abbrev set-of : ℕ → Bool
  set-of = is_of_two v.rows v.ties a b

  rows-read : (gone : Option ℕ) → map (λ n. get_or (rows_but gone v.rows) n no_row) it.rows.items ≡ rows_within set-of (rows_but gone v.rows)
  rows-read gone =
      let rows : List RelationRow = rows_but gone v.rows in
      ap (map (λ n. get_or rows n no_row))
      (h.rows
      ∙ ap (λ m. filter (λ n. set-of (get_or v.rows n no_row).first.0) (range_with_len 0 m)) (sym (length-but gone v.rows))
      ∙ filter_agree (λ n. set-of (get_or v.rows n no_row).first.0) (λ n. set-of (get_or rows n no_row).first.0) (λ n. ap set-of (sym (first-but gone v.rows n))) (range_with_len 0 (length rows)))
      ∙ sym (filter-by-place (λ (row : RelationRow). set-of row.first.0) no_row rows)

  pub rows-gathered : (gone : Option ℕ) (added : Option RelationRow) → ForSome added (λ row. row.first.0 ≡ a)
      → rows_with added (map (λ n. get_or (rows_but gone v.rows) n no_row) it.rows.items) ≡ rows_within set-of (rows_with added (rows_but gone v.rows))
  rows-gathered gone None first = rows-read gone
  rows-gathered gone (Some row) first =
      let in-it : set-of row.first.0 ≡ true = ap set-of (first row refl) ∙ of-first v.rows v.ties a b in
      ap (λ l. l ++ row ∷ []) (rows-read gone)
      ∙ sym (filter-append (λ (r : RelationRow). set-of r.first.0) (rows_but gone v.rows) (row ∷ []) ∙ ap (λ c. rows_within set-of (rows_but gone v.rows) ++ cond c (row ∷ []) []) in-it)

  pub firsts-there : (rows : List RelationRow) → All (λ row. list_any (λ t. t == row.first.0) it.tags.items ≡ true) (rows_within set-of rows)
  firsts-there rows =
      All-weaker (λ (row : RelationRow). set-of row.first.0 ≡ true) (λ (row : RelationRow). list_any (λ t. t == row.first.0) it.tags.items ≡ true)
      (λ row yes-it. h.whole row.first.0 ∙ yes-it) (rows_within set-of rows) (filter_passes (λ (row : RelationRow). set-of row.first.0) rows)

  pub numbers-counted : length it.rows.items ≡ length (rows_within set-of v.rows)
  numbers-counted = ap (λ (l : List ℕ). length l) h.rows ∙ sym (rows-counted set-of v.rows)

-- ---- the ends of all services
pub ideal-none : (rows : List RelationRow) (t : ℕ) → ideal [] rows t ≡ t
unfolding ideal
ideal-none rows t = refl

pub refolded : (rows new-rows : List RelationRow) (orders : List (List ServiceNo)) (ends lists new : List (List ℕ)) (tags : List ℕ) (S : ℕ → Bool)
    → AreFolded rows orders ends → AreEndsFor tags (rows_within S new-rows) orders lists (length orders)
    → ((t : ℕ) → list_any (λ x. x == t) tags ≡ S t)
    → length new ≡ length ends
    → ((s t : ℕ) → s < length ends → at (get_or new s []) t ≡ cond (list_any (λ x. x == t) tags) (end_beside tags (get_or lists s []) t) (at (get_or ends s []) t))
    → ((order : List ServiceNo) (t : ℕ) → ideal order new-rows t ≡ cond (S t) (ideal order (rows_within S new-rows) t) (ideal order rows t))
    → All (λ row. row.service.0 < length orders) new-rows
    → AreFolded new-rows orders new
refolded rows new-rows orders ends lists new tags S h f whole len put changes services = record {
  one_each = len ∙ h.one_each;
  ideal = λ s t. elim (cases_lt s (length orders)) [
    | inl less ↦
        put s t (omega (arith, less, h.one_each))
        ∙ ap (λ c. cond c (end_beside tags (get_or lists s []) t) (at (get_or ends s []) t)) (whole t)
        ∙ ap (λ x. cond (S t) x (at (get_or ends s []) t)) (f.ideal s t less)
        ∙ ap (cond (S t) (ideal (get_or orders s []) (rows_within S new-rows) t)) (h.ideal s t)
        ∙ sym (changes (get_or orders s []) t)
    | inr more ↦
        ap (λ (l : List ℕ). at l t) (get_or_past new s [] (omega (arith, len, h.one_each, more)))
        ∙ sym (ap (λ o. ideal o new-rows t) (get_or_past orders s [] more) ∙ ideal-none new-rows t)
  ];
  services = services;
}

-- ---- sets of clusters are closed under the rows
pub closed-tied : (rows new-rows : List RelationRow) (ties : List Pair) (a b : ℕ) (before later : List Pair) → all_pairs rows ties ≡ before ++ later
    → map pair_of new-rows ++ ties ≡ before ++ (a, b) ∷ later → IsClosed (is_of_two rows ties a b) new-rows
closed-tied rows new-rows ties a b before later e f =
    let same : in_cluster (map pair_of new-rows ++ ties) a ≡ is_of_two rows ties a b =
    fun_ext (λ t. ap (λ (l : List Pair). in_cluster l a t) f ∙ tied-set rows ties a b before later e t) in
    subst (λ S. IsClosed S new-rows) same (rows-closed new-rows ties a)

pub closed-one : (rows : List RelationRow) (ties : List Pair) (a : ℕ) → IsClosed (is_of_two rows ties a a) rows
closed-one rows ties a =
    subst (λ S. IsClosed S rows) (fun_ext (λ t. twice (label_of rows ties t == label_of rows ties a))) (rows-closed rows ties a)
  where
    twice : (c : Bool) → c ≡ (c || c)
    twice true = refl
    twice false = refl

-- ---- one more service
no-pairs : (n : ℕ) (s : ServiceNo) (rows : List RelationRow) → n ≤ s.0 → All (λ row. row.service.0 < n) rows → pairs_of rows s ≡ []
no-pairs n s rows le h = by rows (recursion_from_All (λ (row : RelationRow). row.service.0 < n) rows h)
  where
    by : (rows : List RelationRow) → AllByRecursion (λ row. row.service.0 < n) rows → pairs_of rows s ≡ []
    by [] a = refl
    by (row ∷ rows) a = one row.standing (ne_eqb row.service.0 s.0 (λ e. omega (arith, e, a.0, le))) (by rows a.1)
      where
        one : (c : Bool) → (row.service.0 == s.0) ≡ false → pairs_of rows s ≡ []
            → map pair_of (cond (c && row.service.0 == s.0) (row ∷ filter (λ r. r.standing && r.service.0 == s.0) rows) (filter (λ r. r.standing && r.service.0 == s.0) rows)) ≡ []
        one true e rest = rw e rest
        one false e rest = rest

ideal-own : (n : ℕ) (s : ServiceNo) (rows : List RelationRow) (t : ℕ) → n ≤ s.0 → All (λ row. row.service.0 < n) rows → ideal (s ∷ []) rows t ≡ t
unfolding ideal
ideal-own n s rows t le h = ap (λ (l : List Pair). ideal_by (l ++ []) t) (no-pairs n s rows le h)

abbrev pub alone-of : ℕ → List ServiceNo
alone-of n = (record { 0 = n }) ∷ []

pub folded-service : (rows : List RelationRow) (orders : List (List ServiceNo)) (ends : List (List ℕ)) → AreFolded rows orders ends
    → AreFolded rows (orders ++ alone-of (length orders) ∷ []) (ends ++ [] ∷ [])
folded-service rows orders ends h = record {
  one_each = omega (arith, length_push ends [], h.one_each, length_push orders (alone-of (length orders)));
  ideal = λ s t. elim (cases_lt s (length orders)) [
    | inl less ↦
        ap (λ (l : List ℕ). at l t) (get_or_append_left ends ([] ∷ []) [] s (omega (arith, less, h.one_each)))
        ∙ h.ideal s t
        ∙ ap (λ o. ideal o rows t) (sym (get_or_append_left orders ((alone-of (length orders)) ∷ []) [] s less))
    | inr more ↦ elim (cases_eq s (length orders)) [
      | inl same ↦
          ap (λ (l : List ℕ). at l t) (ap (λ n. get_or (ends ++ [] ∷ []) n []) (same ∙ sym h.one_each) ∙ get-last ends [] [])
          ∙ sym (ideal-own (length orders) (record { 0 = length orders }) rows t (omega arith) h.services)
          ∙ ap (λ o. ideal o rows t) (sym (ap (λ n. get_or (orders ++ (alone-of (length orders)) ∷ []) n []) same ∙ get-last orders (alone-of (length orders)) []))
      | inr differ ↦
          ap (λ (l : List ℕ). at l t) (get_or_past (ends ++ [] ∷ []) s [] (omega (arith, length_push ends [], h.one_each, more, differ)))
          ∙ sym (ap (λ o. ideal o rows t) (get_or_past (orders ++ (alone-of (length orders)) ∷ []) s [] (omega (arith, length_push orders (alone-of (length orders)), more, differ))) ∙ ideal-none rows t)
    ]
  ];
  services = All-weaker (λ (row : RelationRow). row.service.0 < length orders) (λ (row : RelationRow). row.service.0 < length (orders ++ (alone-of (length orders)) ∷ []))
      (λ row lt. omega (arith, length_push orders (alone-of (length orders)), lt)) rows h.services;
}
  where
    get-last : {X : Type 0} (xs : List X) (x d : X) → get_or (xs ++ x ∷ []) (length xs) d ≡ x
    get-last [] x d = refl
    get-last (y ∷ xs) x d = get-last xs x d

-- ---- a pair that is recorded, and one that is removed
pub refolded-at : (rows new-rows : List RelationRow) (orders : List (List ServiceNo)) (lists : List (List ℕ)) (tags : List ℕ) (S : ℕ → Bool)
    → AreEndsFor tags (rows_within S new-rows) orders lists (length orders)
    → ((t : ℕ) → list_any (λ x. x == t) tags ≡ S t)
    → ((order : List ServiceNo) (t : ℕ) → ideal order new-rows t ≡ cond (S t) (ideal order (rows_within S new-rows) t) (ideal order rows t))
    → (s t : ℕ) → s < length orders
    → cond (list_any (λ x. x == t) tags) (end_beside tags (get_or lists s []) t) (ideal (get_or orders s []) rows t) ≡ ideal (get_or orders s []) new-rows t
refolded-at rows new-rows orders lists tags S f whole changes s t less =
    ap (λ c. cond c (end_beside tags (get_or lists s []) t) (ideal (get_or orders s []) rows t)) (whole t)
    ∙ ap (λ x. cond (S t) x (ideal (get_or orders s []) rows t)) (f.ideal s t less)
    ∙ sym (changes (get_or orders s []) t)

pub changes-add : (rows : List RelationRow) (ties : List Pair) (row : RelationRow) (order : List ServiceNo) (t : ℕ)
    → ideal order (rows ++ row ∷ []) t
    ≡ cond (is_of_two rows ties row.first.0 row.second.0 t) (ideal order (rows_within (is_of_two rows ties row.first.0 row.second.0) (rows ++ row ∷ [])) t) (ideal order rows t)
changes-add rows ties row order t =
    let pairs : map pair_of (rows ++ row ∷ []) ++ ties ≡ map pair_of rows ++ pair_of row ∷ ties =
    ap (λ (l : List Pair). l ++ ties) (map-append pair_of rows (row ∷ [])) ∙ append_assoc (map pair_of rows) (pair_of row ∷ []) ties in
    row-added (is_of_two rows ties row.first.0 row.second.0) order rows row
    (closed-tied rows (rows ++ row ∷ []) ties row.first.0 row.second.0 (map pair_of rows) ties refl pairs)
    (of-first rows ties row.first.0 row.second.0) t

pub changes-removal : (rows : List RelationRow) (ties : List Pair) (service : ServiceNo) (b : ℕ) → IsSome (good_of (pairs_of rows service) b)
    → (order : List ServiceNo) (t : ℕ)
    → ideal order (removed_at (standing_place service.0 b rows) rows) t
    ≡ cond (is_of_two rows ties b b t) (ideal order (rows_within (is_of_two rows ties b b) (removed_at (standing_place service.0 b rows) rows)) t) (ideal order rows t)
changes-removal rows ties service b some order t =
    by (standing_at service.0 b rows) refl (subst IsSome (standing-good service b rows) some)
  where
    by : (o : Option ℕ) → standing_at service.0 b rows ≡ o → IsSome (option_map (λ n. (get_or rows n no_row).second.0) o)
        → ideal order (removed_at (standing_place service.0 b rows) rows) t
        ≡ cond (is_of_two rows ties b b t) (ideal order (rows_within (is_of_two rows ties b b) (removed_at (standing_place service.0 b rows) rows)) t) (ideal order rows t)
    by None e there = absurd (false≢true there)
    by (Some n) e there =
        let within = standing-within service.0 b rows n e in
        let first : is_of_two rows ties b b (get_or rows (standing_place service.0 b rows) no_row).first.0 ≡ true =
        ap (λ k. is_of_two rows ties b b (get_or rows k no_row).first.0) within.1 ∙ ap (is_of_two rows ties b b) (standing-first service.0 b rows n e) ∙ of-first rows ties b b in
        row-removed (is_of_two rows ties b b) order (standing_place service.0 b rows) rows (closed-one rows ties b) first (omega (arith, within.0, within.1)) t

-- ---- the lists of ends are long enough where there is room
pub room-long : (long : Bool) (n : ℕ) → 1 ≤ cond long n 0 → long ≡ true
room-long true n h = refl
room-long false n h = absurd (omega (arith, h))

pub known-tags : (n : ℕ) (tags ends : List ℕ) → n ≤ length ends → All (λ t. t < n) tags → All (λ t. t < length ends) tags
known-tags n tags ends le h = All-weaker (λ t. t < n) (λ t. t < length ends) (λ t lt. omega (arith, lt, le)) tags h

-- ---- another list for a service
pub fold-label : (rows : List RelationRow) (ties : List Pair) (order : List ServiceNo) (label : ℕ) (tags list : List ℕ) (old t : ℕ)
    → label_of rows ties label ≡ label → list_any (λ x. x == t) tags ≡ is_of_two rows ties label label t
    → end_beside tags list t ≡ ideal order (rows_within (is_of_two rows ties label label) rows) t
    → cond (list_any (λ x. x == t) tags) (end_beside tags list t) old ≡ cond (label_of rows ties t == label) (ideal order rows t) old
fold-label rows ties order label tags list old t own whole folded =
    ap (λ c. cond c (end_beside tags list t) old) whole
    ∙ by (is_of_two rows ties label label t) refl
    ∙ ap (λ c. cond c (ideal order rows t) old) test
  where
    once : (c : Bool) → (c || c) ≡ c
    once true = refl
    once false = refl

    test : is_of_two rows ties label label t ≡ (label_of rows ties t == label)
    test = once (label_of rows ties t == label_of rows ties label) ∙ ap (λ l. label_of rows ties t == l) own

    by : (c : Bool) → is_of_two rows ties label label t ≡ c → cond c (end_beside tags list t) old ≡ cond c (ideal order rows t) old
    by true e = folded ∙ (alone (is_of_two rows ties label label) order rows (closed-one rows ties label) t e).0
    by false e = refl

-- a number that is no label names no cluster
pub no-label : (rows : List RelationRow) (ties : List Pair) (label t : ℕ) → (label_of rows ties label ≡ label → ⊥) → (label_of rows ties t == label) ≡ false
no-label rows ties label t other = ne_eqb (label_of rows ties t) label
    (λ same. other (ap (label_of rows ties) (sym same) ∙ (labels-least (all_pairs rows ties)).own t ∙ same))

-- a tag of which no row speaks is its own ideal tag
pub ideal-unknown : (rows : List RelationRow) (order : List ServiceNo) (n t : ℕ) → All (λ row. (row.first.0 < n) × (row.second.0 < n)) rows → n ≤ t → ideal order rows t ≡ t
ideal-unknown rows order n t known le =
    let only : ℕ → Bool = λ k. k == t in
    let closed : IsClosed only rows =
    All-weaker (λ (row : RelationRow). (row.first.0 < n) × (row.second.0 < n)) (λ (row : RelationRow). only row.first.0 ≡ only row.second.0)
    (λ row both. ne_eqb row.first.0 t (λ e. omega (arith, e, both.0, le)) ∙ sym (ne_eqb row.second.0 t (λ e. omega (arith, e, both.1, le)))) rows known in
    eqb-true (ideal order rows t) t (alone only order rows closed t (eq-eqb t t refl)).1

pub all-ends : (rows : List RelationRow) (ties : List Pair) (order : List ServiceNo) (n end t e : ℕ) → All (λ row. (row.first.0 < n) × (row.second.0 < n)) rows → n ≤ end
    → e ≡ cond (ltb (label_of rows ties t) end) (ideal order rows t) t → e ≡ ideal order rows t
all-ends rows ties order n end t e known le is = elim (cases_lt t n) [
  | inl less ↦ is ∙ ap (λ c. cond c (ideal order rows t) t) (lt-ltb (label_of rows ties t) end (omega (arith, (labels-least (all_pairs rows ties)).low t, less, le)))
  | inr more ↦ is ∙ either (ltb (label_of rows ties t) end) (ideal-unknown rows order n t known more)
]
  where
    either : (c : Bool) → ideal order rows t ≡ t → cond c (ideal order rows t) t ≡ ideal order rows t
    either true same = refl
    either false same = sym same

pub ordered-at : (orders : List (List ServiceNo)) (order : List ServiceNo) (rows : List RelationRow) (service s t e : ℕ) → service < length orders → e ≡ ideal order rows t
    → cond (s == service) e (ideal (get_or orders s []) rows t) ≡ ideal (get_or (set orders service order) s []) rows t
ordered-at orders order rows service s t e less is = elim (cases_eq s service) [
  | inl same ↦
      rw (eq-eqb s service same)
      (is ∙ ap (λ o. ideal o rows t) (sym (ap (λ k. get_or (set orders service order) k []) same ∙ get_or-set_same orders service order [] less)))
  | inr differ ↦
      rw (ne_eqb s service differ)
      (ap (λ o. ideal o rows t) (sym (get_or-set_other orders service s order [] differ)))
]

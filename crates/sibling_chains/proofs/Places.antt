-- The standing row of a service and a bad tag.
use Rattle.std.proofs.Common.{◌≡◌, ◌≢◌, ◌∙◌, ◌⊎◌, ℕ, zero, suc, ◌+◌, ◌<◌, ◌≤◌, ◌==◌, ◌&&◌, Bool, true, false, cond, List, [], ◌∷◌, ◌++◌, length, map, filter, get_or, count_by, Option, Some, None, refl, sym, ap, subst, inl, inr, arith}
use Rattle.std.specs.Option.{option_map}
use Rattle.std.proofs.lemmas.Bool.{and_parts, cases_eq, eqb-true, eq-eqb, false_from_ne_true}
use Rattle.std.proofs.lemmas.List.{length_push}
use Rattle.std.proofs.lemmas.List.Sums.{sum_by-cons, sum_by-append}
use Rattle.media_types.specs.declared.numbers.ServiceNo.{ServiceNo}
use Rattle.spare_tables.specs.Keys.{value_of}
use Rattle.spare_tables.specs.Order.{pair_cmp}
use Rattle.tag_types.specs.declared.limits.TheConstants.{MAX_RELATIONS}
use Rattle.sibling_chains.specs.RowLaws.{length-removed}
use Rattle.sibling_chains.specs.declared.relation_row.RelationRow.{RelationRow}
use Rattle.sibling_chains.specs.Following.{Pair, good_of}
use Rattle.sibling_chains.specs.PairTable.{ArePlaced}
use Rattle.sibling_chains.specs.Recorded.{no_row, pair_of, pairs_of, removed, removed_at, standing_at, standing_place, stands_for}

-- ---- the good tag is that of the row
shift : (row : RelationRow) (rows : List RelationRow) (o : Option ℕ)
    → option_map (λ n. (get_or (row ∷ rows) n no_row).second.0) (option_map suc o) ≡ option_map (λ n. (get_or rows n no_row).second.0) o
shift row rows None = refl
shift row rows (Some n) = refl

pub standing-good : (s : ServiceNo) (b : ℕ) (rows : List RelationRow) → good_of (pairs_of rows s) b ≡ option_map (λ n. (get_or rows n no_row).second.0) (standing_at s.0 b rows)
standing-good s b [] = refl
standing-good s b (row ∷ rows) = by (row.standing && row.service.0 == s.0) (row.first.0 == b) refl refl (standing-good s b rows)
  where
    by : (of this : Bool) → (row.standing && row.service.0 == s.0) ≡ of → (row.first.0 == b) ≡ this
        → good_of (pairs_of rows s) b ≡ option_map (λ n. (get_or rows n no_row).second.0) (standing_at s.0 b rows)
        → good_of (map pair_of (cond of (row ∷ filter (λ r. r.standing && r.service.0 == s.0) rows) (filter (λ r. r.standing && r.service.0 == s.0) rows))) b
        ≡ option_map (λ n. (get_or (row ∷ rows) n no_row).second.0) (cond (of && (row.first.0 == b)) (Some 0) (option_map suc (standing_at s.0 b rows)))
    by true true eo et rest = rw et refl
    by true false eo et rest = rw et (rest ∙ sym (shift row rows (standing_at s.0 b rows)))
    by false this eo et rest = rest ∙ sym (shift row rows (standing_at s.0 b rows))

abbrev one : Bool → ℕ
one b = cond b 1 0

-- ---- where the row stands
pub standing-within : (s b : ℕ) (rows : List RelationRow) (n : ℕ) → standing_at s b rows ≡ Some n → (n < length rows) × (standing_place s b rows ≡ n)
standing-within s b [] n e = cc
standing-within s b (row ∷ rows) n e = by (stands_for s b row) (standing_at s b rows) refl (λ m. standing-within s b rows m) e
  where
    by : (here : Bool) (o : Option ℕ) → standing_at s b rows ≡ o → ((m : ℕ) → standing_at s b rows ≡ Some m → (m < length rows) × (standing_place s b rows ≡ m))
        → cond here (Some 0) (option_map suc o) ≡ Some n → (n < suc (length rows)) × (cond here 0 (suc (standing_place s b rows)) ≡ n)
    by true o eo rest e = let first : 0 ≡ n = cc in (omega (arith, first), first)
    by false None eo rest e = cc
    by false (Some m) eo rest e =
        let next : suc m ≡ n = cc in
        let inner = rest m eo in
        (omega (arith, inner.0, next), ap suc inner.1 ∙ next)

count-cons : (p : RelationRow → Bool) (row : RelationRow) (rows : List RelationRow) → count_by p (row ∷ rows) ≡ cond (p row) 1 0 + count_by p rows
count-cons p row rows = sum_by-cons (λ (r : RelationRow). cond (p r) 1 0) row rows

pub standing-none : (s b : ℕ) (rows : List RelationRow) → standing_at s b rows ≡ None → (standing_place s b rows ≡ length rows) × (count_by (stands_for s b) rows ≡ 0)
standing-none s b [] e = (refl, refl)
standing-none s b (row ∷ rows) e = by (stands_for s b row) (standing_at s b rows) refl refl (standing-none s b rows) e
  where
    by : (here : Bool) (o : Option ℕ) → stands_for s b row ≡ here → standing_at s b rows ≡ o
        → (standing_at s b rows ≡ None → (standing_place s b rows ≡ length rows) × (count_by (stands_for s b) rows ≡ 0))
        → cond here (Some 0) (option_map suc o) ≡ None → (cond here 0 (suc (standing_place s b rows)) ≡ suc (length rows)) × (count_by (stands_for s b) (row ∷ rows) ≡ 0)
    by true o eh eo rest e = cc
    by false (Some m) eh eo rest e = cc
    by false None eh eo rest e =
        let inner = rest eo in
        let one = ap one eh in
        (ap suc inner.0, omega (arith, count-cons (stands_for s b) row rows, one, inner.1))

pub none-standing : (s b : ℕ) (rows : List RelationRow) → count_by (stands_for s b) rows ≡ 0 → standing_at s b rows ≡ None
none-standing s b [] e = refl
none-standing s b (row ∷ rows) e = by (stands_for s b row) refl (none-standing s b rows)
  where
    by : (here : Bool) → stands_for s b row ≡ here → (count_by (stands_for s b) rows ≡ 0 → standing_at s b rows ≡ None)
        → cond here (Some 0) (option_map suc (standing_at s b rows)) ≡ None
    by true eh rest = let one = ap one eh in absurd (omega (arith, count-cons (stands_for s b) row rows, one, e))
    by false eh rest =
        let one = ap one eh in
        let inner : standing_at s b rows ≡ None = rest (omega (arith, count-cons (stands_for s b) row rows, one, e)) in
        ap (option_map suc) inner

-- ---- one more row
abbrev or_else : Option ℕ → Option ℕ → Option ℕ
or_else None other = other
or_else (Some n) other = Some n

standing-push : (s b : ℕ) (rows : List RelationRow) (row : RelationRow)
    → standing_at s b (rows ++ row ∷ []) ≡ or_else (standing_at s b rows) (cond (stands_for s b row) (Some (length rows)) None)
standing-push s b [] row = refl
standing-push s b (r ∷ rows) row = by (stands_for s b r) (standing_at s b rows) (stands_for s b row) (standing-push s b rows row)
  where
    by : (here : Bool) (o : Option ℕ) (last : Bool) → standing_at s b (rows ++ row ∷ []) ≡ or_else o (cond last (Some (length rows)) None)
        → cond here (Some 0) (option_map suc (standing_at s b (rows ++ row ∷ []))) ≡ or_else (cond here (Some 0) (option_map suc o)) (cond last (Some (suc (length rows))) None)
    by true o last rest = refl
    by false (Some n) last rest = ap (option_map suc) rest
    by false None true rest = ap (option_map suc) rest
    by false None false rest = ap (option_map suc) rest

count-push : (p : RelationRow → Bool) (rows : List RelationRow) (row : RelationRow) → count_by p (rows ++ row ∷ []) ≡ count_by p rows + cond (p row) 1 0
count-push p rows row =
    let all = sum_by-append (λ (r : RelationRow). cond (p r) 1 0) rows (row ∷ []) in
    let last = count-cons p row [] in
    omega (arith, all, last)

abbrev pub key : ℕ → ℕ → Pair
key s b = (s, b)

-- two rows that stand for different pairs of a service and a tag
pub stands-apart : (s b : ℕ) (row : RelationRow) → (key s b ≡ key row.service.0 row.first.0 → ⊥) → stands_for s b row ≡ false
stands-apart s b row differ = false_from_ne_true (stands_for s b row) (λ yes.
    let parts = and_parts (row.standing && row.service.0 == s) (row.first.0 == b) yes in
    let of = and_parts row.standing (row.service.0 == s) parts.0 in
    let service : s ≡ row.service.0 = sym (eqb-true row.service.0 s of.1) in
    let first : b ≡ row.first.0 = sym (eqb-true row.first.0 b parts.1) in
    differ (λ i. (service i, first i)))

pub same-or-apart : (s b t c : ℕ) → ((s ≡ t) × (b ≡ c)) ⊎ (key s b ≡ key t c → ⊥)
same-or-apart s b t c = elim (cases_eq s t) [
  | inl service ↦ elim (cases_eq b c) [
    | inl tag ↦ inl (service, tag)
    | inr other ↦ inr (λ same. other (ap (λ (p : Pair). p.1) same))
  ]
  | inr other ↦ inr (λ same. other (ap (λ (p : Pair). p.0) same))
]

pub placed-push : (rows : List RelationRow) (places new : List (Pair × ℕ)) (row : RelationRow) → ArePlaced rows places → length rows < MAX_RELATIONS
    → row.standing ≡ true → standing_at row.service.0 row.first.0 rows ≡ None
    → value_of pair_cmp new (row.service.0, row.first.0) ≡ Some (length rows)
    → ((k : Pair) → k ≢ (row.service.0, row.first.0) → value_of pair_cmp new k ≡ value_of pair_cmp places k)
    → ArePlaced (rows ++ row ∷ []) new
placed-push rows places new row h few stands none this others = record {
  placed = λ s b. place s b;
  single = λ s b. once s b;
  few = omega (arith, length_push rows row, few);
}
  where
    own : stands_for row.service.0 row.first.0 row ≡ true
    own = rw (stands, eq-eqb row.service.0 row.service.0 refl, eq-eqb row.first.0 row.first.0 refl) refl

    place : (s b : ℕ) → value_of pair_cmp new (s, b) ≡ standing_at s b (rows ++ row ∷ [])
    place s b = elim (same-or-apart s b row.service.0 row.first.0) [
      | inl same ↦
          rw (same.0, same.1) (this ∙ sym (standing-push row.service.0 row.first.0 rows row ∙ rw (none, own) refl))
      | inr apart ↦
          others (s, b) apart ∙ h.placed s b ∙ sym (standing-push s b rows row ∙ rw (stands-apart s b row apart) (or-none (standing_at s b rows)))
    ]
      where
        or-none : (o : Option ℕ) → or_else o None ≡ o
        or-none None = refl
        or-none (Some n) = refl

    once : (s b : ℕ) → count_by (stands_for s b) (rows ++ row ∷ []) ≤ 1
    once s b = elim (same-or-apart s b row.service.0 row.first.0) [
      | inl same ↦
          let none-before : count_by (stands_for s b) rows ≡ 0 = rw (same.0, same.1) (standing-none row.service.0 row.first.0 rows none).1 in
          last s b (stands_for s b row) refl none-before
      | inr apart ↦
          let no = ap one (stands-apart s b row apart) in
          omega (arith, count-push (stands_for s b) rows row, no, h.single s b)
    ]
      where
        last : (s b : ℕ) (x : Bool) → stands_for s b row ≡ x → count_by (stands_for s b) rows ≡ 0 → count_by (stands_for s b) (rows ++ row ∷ []) ≤ 1
        last s b true e z = let one = ap one e in omega (arith, count-push (stands_for s b) rows row, one, z)
        last s b false e z = let one = ap one e in omega (arith, count-push (stands_for s b) rows row, one, z)

-- ---- one row less that stands
pub count-removed : (p : RelationRow → Bool) → ((row : RelationRow) → p (removed row) ≡ false) → (n : ℕ) (rows : List RelationRow) → count_by p (removed_at n rows) ≤ count_by p rows
count-removed p gone n [] = omega arith
count-removed p gone zero (row ∷ rows) =
    let zero-is = ap one (gone row) in
    omega (arith, count-cons p (removed row) rows, count-cons p row rows, zero-is)
count-removed p gone (suc n) (row ∷ rows) = omega (arith, count-cons p row rows, count-cons p row (removed_at n rows), count-removed p gone n rows)

removed-this : (s b : ℕ) (rows : List RelationRow) → count_by (stands_for s b) rows ≤ 1 → standing_at s b (removed_at (standing_place s b rows) rows) ≡ None
removed-this s b [] h = refl
removed-this s b (row ∷ rows) h = by (stands_for s b row) refl (removed-this s b rows)
  where
    by : (here : Bool) → stands_for s b row ≡ here → (count_by (stands_for s b) rows ≤ 1 → standing_at s b (removed_at (standing_place s b rows) rows) ≡ None)
        → standing_at s b (removed_at (cond here 0 (suc (standing_place s b rows))) (row ∷ rows)) ≡ None
    by true eh rest =
        let one = ap one eh in
        let none : count_by (stands_for s b) rows ≡ 0 = omega (arith, count-cons (stands_for s b) row rows, one, h) in
        ap (option_map suc) (none-standing s b rows none)
    by false eh rest =
        let inner = rest (omega (arith, count-cons (stands_for s b) row rows, h)) in
        rw eh (ap (option_map suc) inner)

removed-other : (s b t c : ℕ) (rows : List RelationRow) → (key s b ≡ key t c → ⊥) → standing_at s b (removed_at (standing_place t c rows) rows) ≡ standing_at s b rows
removed-other s b t c [] differ = refl
removed-other s b t c (row ∷ rows) differ = by (stands_for t c row) refl (removed-other s b t c rows differ)
  where
    by : (here : Bool) → stands_for t c row ≡ here → standing_at s b (removed_at (standing_place t c rows) rows) ≡ standing_at s b rows
        → standing_at s b (removed_at (cond here 0 (suc (standing_place t c rows))) (row ∷ rows)) ≡ cond (stands_for s b row) (Some 0) (option_map suc (standing_at s b rows))
    by true eh rest =
        let parts = and_parts (row.standing && row.service.0 == t) (row.first.0 == c) eh in
        let of = and_parts row.standing (row.service.0 == t) parts.0 in
        let service : t ≡ row.service.0 = sym (eqb-true row.service.0 t of.1) in
        let first : c ≡ row.first.0 = sym (eqb-true row.first.0 c parts.1) in
        let no : stands_for s b row ≡ false = stands-apart s b row (λ same. differ (same ∙ sym (λ i. (service i, first i)))) in
        rw no refl
    by false eh rest = ap (λ o. cond (stands_for s b row) (Some 0) (option_map suc o)) rest

pub placed-removed : (rows : List RelationRow) (places new : List (Pair × ℕ)) (s b : ℕ) → ArePlaced rows places → value_of pair_cmp new (s, b) ≡ None
    → ((k : Pair) → k ≢ (s, b) → value_of pair_cmp new k ≡ value_of pair_cmp places k)
    → ArePlaced (removed_at (standing_place s b rows) rows) new
placed-removed rows places new s b h this others = record {
  placed = λ t c. elim (same-or-apart t c s b) [
    | inl same ↦ rw (same.0, same.1) (this ∙ sym (removed-this s b rows (h.single s b)))
    | inr apart ↦ others (t, c) apart ∙ h.placed t c ∙ sym (removed-other t c s b rows apart)
  ];
  single = λ t c. omega (arith, count-removed (stands_for t c) (λ row. refl) (standing_place s b rows) rows, h.single t c);
  few = omega (arith, length-removed (standing_place s b rows) rows, h.few);
}

-- without a good tag no row stands
pub no-good : (s : ServiceNo) (b : ℕ) (rows : List RelationRow) → good_of (pairs_of rows s) b ≡ None → standing_at s.0 b rows ≡ None
no-good s b rows none = by (standing_at s.0 b rows) (sym (standing-good s b rows) ∙ none)
  where
    by : (o : Option ℕ) → option_map (λ n. (get_or rows n no_row).second.0) o ≡ None → o ≡ None
    by None e = refl
    by (Some n) e = cc

-- the standing row has this first tag
pub standing-first : (s b : ℕ) (rows : List RelationRow) (n : ℕ) → standing_at s b rows ≡ Some n → (get_or rows n no_row).first.0 ≡ b
standing-first s b [] n e = cc
standing-first s b (row ∷ rows) n e = by (stands_for s b row) (standing_at s b rows) refl refl (λ m. standing-first s b rows m) e
  where
    by : (here : Bool) (o : Option ℕ) → stands_for s b row ≡ here → standing_at s b rows ≡ o → ((m : ℕ) → standing_at s b rows ≡ Some m → (get_or rows m no_row).first.0 ≡ b)
        → cond here (Some 0) (option_map suc o) ≡ Some n → (get_or (row ∷ rows) n no_row).first.0 ≡ b
    by true o eh eo rest e =
        let first : 0 ≡ n = cc in
        subst (λ m. (get_or (row ∷ rows) m no_row).first.0 ≡ b) first (eqb-true row.first.0 b (and_parts (row.standing && row.service.0 == s) (row.first.0 == b) eh).1)
    by false None eh eo rest e = cc
    by false (Some m) eh eo rest e =
        let next : suc m ≡ n = cc in
        subst (λ k. (get_or (row ∷ rows) k no_row).first.0 ≡ b) next (rest m eo)

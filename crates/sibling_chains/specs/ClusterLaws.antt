-- What pairs and rows do to a set of tags that is closed under them.
use Rattle.std.proofs.Common.{◌≡◌, ◌∙◌, ℕ, zero, suc, ◌<◌, ◌==◌, ◌&&◌, ◌||◌, not, min, Bool, true, false, cond, List, [], ◌∷◌, ◌++◌, length, map, filter, get_or, refl, sym, ap, inl, inr, arith}
use Rattle.std.specs.List.{AllByRecursion}
use Rattle.std.proofs.lemmas.Bool.{false≢true, cases_Bool, eqb-true, eq-eqb, ne_eqb}
use Rattle.std.proofs.lemmas.List.Elements.{All-from_recursion, recursion_from_All}
use Rattle.sibling_chains.specs.Following.{Pair, ideal_by}
use Rattle.media_types.specs.declared.numbers.ServiceNo.{ServiceNo}
use Rattle.sibling_chains.specs.declared.relation_row.RelationRow.{RelationRow}
use Rattle.sibling_chains.specs.Recorded.{no_row, pair_of, pairs_of, pairs_in, ideal, removed_at}
use Rattle.sibling_chains.specs.Clusters.{IsClosed, in_cluster, joined, labels, labels_after, outside, rows_within}
use Rattle.sibling_chains.specs.Ends.{ends, ends_after, moved, takes}
use Rattle.sibling_chains.specs.EndLaws.{ideal-ends}

abbrev Split : (ℕ → Bool) → (ℕ → ℕ) → Type 0
Split S I = (t : ℕ) → S (I t) ≡ S t

abbrev Agree : (ℕ → Bool) → (ℕ → ℕ) → (ℕ → ℕ) → Type 0
Agree S I J = (t : ℕ) → S t ≡ true → I t ≡ J t

abbrev Closed : (ℕ → Bool) → List Pair → Type 0
Closed S pairs = AllByRecursion (λ p. S p.0 ≡ S p.1) pairs

abbrev within : (ℕ → Bool) → List Pair → List Pair
within S pairs = filter (λ p. S p.0) pairs

split-if : (S : ℕ → Bool) (takes : Bool) (p : Pair) (I : ℕ → ℕ) → S p.0 ≡ S p.1 → Split S I → Split S (cond takes (moved p I) I)
split-if S false p I both h t = h t
split-if S true p I both h t = elim (cases_Bool (I t == p.0)) [
  | inl here ↦ let is : I t ≡ p.0 = eqb-true (I t) p.0 here in let k = ap S is in rw here (h p.1 ∙ sym both ∙ sym k ∙ h t)
  | inr there ↦ rw there (h t)
]

ends-split : (S : ℕ → Bool) (p : Pair) (I : ℕ → ℕ) → S p.0 ≡ S p.1 → Split S I → Split S (ends p I)
ends-split S p I both h = split-if S (takes p I) p I both h

same-if : (b c : Bool) (F G H K : ℕ → ℕ) (t : ℕ) → b ≡ c → F t ≡ H t → G t ≡ K t → cond b F G t ≡ cond c H K t
same-if true true F G H K t e p q = p
same-if false false F G H K t e p q = q
same-if true false F G H K t e p q = absurd (false≢true (sym e))
same-if false true F G H K t e p q = absurd (false≢true e)

ends-same : (S : ℕ → Bool) (p : Pair) (I J : ℕ → ℕ) → S p.0 ≡ true → S p.1 ≡ true → Agree S I J → Agree S (ends p I) (ends p J)
ends-same S p I J bad good h t s =
    same-if (takes p I) (takes p J) (moved p I) I (moved p J) J t
    (rw (h p.0 bad, h p.1 good) refl) (rw (h p.1 good, h t s) refl) (h t s)

apart-if : (S : ℕ → Bool) (takes : Bool) (p : Pair) (J : ℕ → ℕ) → S p.0 ≡ false → Split S J → Agree S J (cond takes (moved p J) J)
apart-if S false p J bad h t s = refl
apart-if S true p J bad h t s =
    let no : (J t == p.0) ≡ false = ne_eqb (J t) p.0 (λ same. let k = ap S same in false≢true (sym bad ∙ sym k ∙ h t ∙ s)) in
    rw no refl

fold-step : (b : Bool) (S : ℕ → Bool) (p : Pair) (pairs : List Pair) (I J : ℕ → ℕ) → S p.0 ≡ b → S p.1 ≡ b
    → ((V W : ℕ → ℕ) → Split S W → Agree S V W → Agree S (ends_after (within S pairs) V) (ends_after pairs W))
    → Split S J → Agree S I J
    → Agree S (ends_after (cond b (p ∷ within S pairs) (within S pairs)) I) (ends_after pairs (ends p J))
fold-step true S p pairs I J bad good rest k h = rest (ends p I) (ends p J) (ends-split S p J (bad ∙ sym good) k) (ends-same S p I J bad good h)
fold-step false S p pairs I J bad good rest k h =
    rest I (ends p J) (ends-split S p J (bad ∙ sym good) k) (λ t s. h t s ∙ apart-if S (takes p J) p J bad k t s)

fold-agrees : (S : ℕ → Bool) (pairs : List Pair) (I J : ℕ → ℕ) → Closed S pairs → Split S J → Agree S I J
    → Agree S (ends_after (within S pairs) I) (ends_after pairs J)
fold-agrees S [] I J c k h = h
fold-agrees S (p ∷ pairs) I J c k h = fold-step (S p.0) S p pairs I J refl (sym c.0) (λ V W. fold-agrees S pairs V W c.1) k h

after-split : (S : ℕ → Bool) (pairs : List Pair) (J : ℕ → ℕ) → Closed S pairs → Split S J → Split S (ends_after pairs J)
after-split S [] J c k = k
after-split S (p ∷ pairs) J c k = after-split S pairs (ends p J) c.1 (ends-split S p J c.0 k)

-- the pairs of the rows of a set
filter-append : {X : Type 0} (keeps : X → Bool) (xs ys : List X) → filter keeps (xs ++ ys) ≡ filter keeps xs ++ filter keeps ys
filter-append keeps [] ys = refl
filter-append keeps (x ∷ xs) ys = by (keeps x) (filter-append keeps xs ys)
  where
    by : (b : Bool) → filter keeps (xs ++ ys) ≡ filter keeps xs ++ filter keeps ys
        → cond b (x ∷ filter keeps (xs ++ ys)) (filter keeps (xs ++ ys)) ≡ cond b (x ∷ filter keeps xs) (filter keeps xs) ++ filter keeps ys
    by true e = ap (λ l. x ∷ l) e
    by false e = e

abbrev stands_in : ServiceNo → RelationRow → Bool
stands_in s row = row.standing && row.service.0 == s.0

of-within : (S : ℕ → Bool) (s : ServiceNo) (rows : List RelationRow) → within S (pairs_of rows s) ≡ pairs_of (rows_within S rows) s
of-within S s [] = refl
of-within S s (row ∷ rows) = by (stands_in s row) (S row.first.0) refl refl (of-within S s rows)
  where
    by : (b k : Bool) → stands_in s row ≡ b → S row.first.0 ≡ k → within S (pairs_of rows s) ≡ pairs_of (rows_within S rows) s
        → within S (map pair_of (cond b (row ∷ filter (stands_in s) rows) (filter (stands_in s) rows)))
        ≡ pairs_of (cond k (row ∷ rows_within S rows) (rows_within S rows)) s
    by true true eb ek e = rw (eb, ek) (ap (λ l. pair_of row ∷ l) e)
    by true false eb ek e = rw ek e
    by false true eb ek e = rw eb e
    by false false eb ek e = e

-- the pairs of a set among those of a service are those of its rows
pub in-within : (S : ℕ → Bool) (order : List ServiceNo) (rows : List RelationRow) → within S (pairs_in order rows) ≡ pairs_in order (rows_within S rows)
in-within S [] rows = refl
in-within S (s ∷ order) rows =
    filter-append (λ p. S p.0) (pairs_of rows s) (pairs_in order rows)
    ∙ ap (λ l. l ++ within S (pairs_in order rows)) (of-within S s rows)
    ∙ ap (λ l. pairs_of (rows_within S rows) s ++ l) (in-within S order rows)

all-append : (P : Pair → Type 0) (xs ys : List Pair) → AllByRecursion P xs → AllByRecursion P ys → AllByRecursion P (xs ++ ys)
all-append P [] ys a b = b
all-append P (x ∷ xs) ys a b = (a.0, all-append P xs ys a.1 b)

abbrev ClosedRows : (ℕ → Bool) → List RelationRow → Type 0
ClosedRows S rows = AllByRecursion (λ row. S row.first.0 ≡ S row.second.0) rows

of-closed : (S : ℕ → Bool) (s : ServiceNo) (rows : List RelationRow) → ClosedRows S rows → Closed S (pairs_of rows s)
of-closed S s [] c = tt
of-closed S s (row ∷ rows) c = by (stands_in s row) (of-closed S s rows c.1)
  where
    by : (b : Bool) → Closed S (pairs_of rows s) → Closed S (map pair_of (cond b (row ∷ filter (stands_in s) rows) (filter (stands_in s) rows)))
    by true rest = (c.0, rest)
    by false rest = rest

-- a set that is closed under rows is closed under the pairs of any services
pub in-closed : (S : ℕ → Bool) (order : List ServiceNo) (rows : List RelationRow) → ClosedRows S rows → Closed S (pairs_in order rows)
in-closed S [] rows c = tt
in-closed S (s ∷ order) rows c = all-append (λ p. S p.0 ≡ S p.1) (pairs_of rows s) (pairs_in order rows) (of-closed S s rows c) (in-closed S order rows c)

-- the ideal tags of a closed set are those that its own rows make, and lie in it
pub alone : (S : ℕ → Bool) (order : List ServiceNo) (rows : List RelationRow) → IsClosed S rows → (t : ℕ)
    → S t ≡ true → (ideal order (rows_within S rows) t ≡ ideal order rows t) × (S (ideal order rows t) ≡ true)
unfolding ideal
alone S order rows closed t s =
    let pairs : List Pair = pairs_in order rows in
    let c : Closed S pairs = in-closed S order rows (recursion_from_All (λ row. S row.first.0 ≡ S row.second.0) rows closed) in
    let small : ideal_by (pairs_in order (rows_within S rows)) t ≡ ideal_by (within S pairs) t = ap (λ l. ideal_by l t) (sym (in-within S order rows)) in (
      small ∙ ideal-ends (within S pairs) t ∙ fold-agrees S pairs (λ x. x) (λ x. x) c (λ x. refl) (λ x _. refl) t s ∙ sym (ideal-ends pairs t),
      ap S (ideal-ends pairs t) ∙ after-split S pairs (λ x. x) c (λ x. refl) t ∙ s,
    )

-- the rest of a closed set is closed
pub outside-closed : (S : ℕ → Bool) (rows : List RelationRow) → IsClosed S rows → IsClosed (outside S) rows
outside-closed S rows c = λ k d hk. ap not (c k d hk)

-- where two lists of rows differ in a closed set alone, the tags of the set have the ideal tags that its own rows make, and the others keep theirs
pub others-stay : (S : ℕ → Bool) (order : List ServiceNo) (old new : List RelationRow) → IsClosed S old → IsClosed S new
    → rows_within (outside S) old ≡ rows_within (outside S) new → (t : ℕ)
    → ideal order new t ≡ cond (S t) (ideal order (rows_within S new) t) (ideal order old t)
others-stay S order old new c d same t = elim (cases_Bool (S t)) [
  | inl here ↦ rw here (sym (alone S order new d t here).0)
  | inr there ↦
      let out : outside S t ≡ true = ap not there in
      rw there (sym (alone (outside S) order new (outside-closed S new d) t out).0
      ∙ ap (λ rows. ideal order rows t) (sym same)
      ∙ (alone (outside S) order old (outside-closed S old c) t out).0)
]

-- labels
pub joined-both : (p : Pair) (L : ℕ → ℕ) → joined p L p.0 ≡ joined p L p.1
joined-both p L = rw (eq-eqb (L p.0) (L p.0) refl, eq-eqb (L p.1) (L p.1) refl) (or-true (L p.1 == L p.0))
  where
    or-true : (b : Bool) → min (L p.0) (L p.1) ≡ cond (b || true) (min (L p.0) (L p.1)) (L p.1)
    or-true true = refl
    or-true false = refl

-- tags that have one label keep one
pub joined-kept : (p : Pair) (L : ℕ → ℕ) (a b : ℕ) → L a ≡ L b → joined p L a ≡ joined p L b
joined-kept p L a b e = ap (λ l. cond (l == L p.0 || l == L p.1) (min (L p.0) (L p.1)) l) e

-- tags that have one label have one after more pairs
pub labels-kept : (pairs : List Pair) (L : ℕ → ℕ) (a b : ℕ) → L a ≡ L b → labels_after L pairs a ≡ labels_after L pairs b
labels-kept [] L a b e = e
labels-kept (p ∷ pairs) L a b e = labels-kept pairs (joined p L) a b (joined-kept p L a b e)

-- the tags of each pair have one label
pub labels-both : (pairs : List Pair) (L : ℕ → ℕ) → AllByRecursion (λ p. labels_after L pairs p.0 ≡ labels_after L pairs p.1) pairs
labels-both [] L = tt
labels-both (p ∷ pairs) L = (labels-kept pairs (joined p L) p.0 p.1 (joined-both p L), labels-both pairs (joined p L))

rows-by : (L : ℕ → ℕ) (x : ℕ) (rows : List RelationRow) (later : List Pair) → AllByRecursion (λ (p : Pair). L p.0 ≡ L p.1) (map pair_of rows ++ later)
    → ClosedRows (λ t. L t == L x) rows × AllByRecursion (λ (p : Pair). L p.0 ≡ L p.1) later
rows-by L x [] later a = (tt, a)
rows-by L x (row ∷ rows) later a = let rest = rows-by L x rows later a.1 in ((ap (λ l. l == L x) a.0, rest.0), rest.1)

map-by : (L : ℕ → ℕ) (x : ℕ) (rows : List RelationRow) → AllByRecursion (λ (p : Pair). L p.0 ≡ L p.1) (map pair_of rows) → ClosedRows (λ t. L t == L x) rows
map-by L x [] a = tt
map-by L x (row ∷ rows) a = (ap (λ l. l == L x) a.0, map-by L x rows a.1)

-- the cluster of a tag over rows and other pairs is closed under the rows
pub rows-closed : (rows : List RelationRow) (later : List Pair) (x : ℕ) → IsClosed (in_cluster (map pair_of rows ++ later) x) rows
rows-closed rows later x =
    let pairs : List Pair = map pair_of rows ++ later in
    All-from_recursion (λ row. in_cluster pairs x row.first.0 ≡ in_cluster pairs x row.second.0) rows (rows-by (labels pairs) x rows later (labels-both pairs (λ t. t))).0

-- the cluster of a tag over sibling rows and parent rows is closed under both
pub clusters-closed : (siblings parents : List RelationRow) (x : ℕ)
    → IsClosed (in_cluster (map pair_of siblings ++ map pair_of parents) x) siblings
    × IsClosed (in_cluster (map pair_of siblings ++ map pair_of parents) x) parents
clusters-closed siblings parents x =
    let pairs : List Pair = map pair_of siblings ++ map pair_of parents in
    let S : ℕ → Bool = in_cluster pairs x in
    let both = rows-by (labels pairs) x siblings (map pair_of parents) (labels-both pairs (λ t. t)) in (
      All-from_recursion (λ row. S row.first.0 ≡ S row.second.0) siblings both.0,
      All-from_recursion (λ row. S row.first.0 ≡ S row.second.0) parents (map-by (labels pairs) x parents both.1),
    )

-- a change of one row
pub row-added : (S : ℕ → Bool) (order : List ServiceNo) (rows : List RelationRow) (row : RelationRow) → IsClosed S (rows ++ row ∷ [])
    → S row.first.0 ≡ true → (t : ℕ)
    → ideal order (rows ++ row ∷ []) t ≡ cond (S t) (ideal order (rows_within S (rows ++ row ∷ [])) t) (ideal order rows t)
row-added S order rows row c here =
    others-stay S order rows (rows ++ row ∷ []) (closed-front rows (recursion_from_All (λ r. S r.first.0 ≡ S r.second.0) (rows ++ row ∷ []) c)) c
    (sym (filter-append (λ r. outside S r.first.0) rows (row ∷ []) ∙ ap (λ b. rows_within (outside S) rows ++ cond (not b) (row ∷ []) []) here ∙ append-none (rows_within (outside S) rows)))
  where
    closed-front : (front : List RelationRow) → ClosedRows S (front ++ row ∷ []) → IsClosed S front
    closed-front front all = All-from_recursion (λ r. S r.first.0 ≡ S r.second.0) front (front-of front all)
      where
        front-of : (front : List RelationRow) → ClosedRows S (front ++ row ∷ []) → ClosedRows S front
        front-of [] all = tt
        front-of (r ∷ front) all = (all.0, front-of front all.1)

    append-none : (xs : List RelationRow) → xs ++ [] ≡ xs
    append-none [] = refl
    append-none (x ∷ xs) = ap (λ l. x ∷ l) (append-none xs)

-- a row that is removed changes the tags of a closed set alone in which its tags lie
pub row-removed : (S : ℕ → Bool) (order : List ServiceNo) (n : ℕ) (rows : List RelationRow) → IsClosed S rows → S (get_or rows n no_row).first.0 ≡ true
    → n < length rows → (t : ℕ)
    → ideal order (removed_at n rows) t ≡ cond (S t) (ideal order (rows_within S (removed_at n rows)) t) (ideal order rows t)
row-removed S order n rows c here hn =
    others-stay S order rows (removed_at n rows) c
    (All-from_recursion (λ r. S r.first.0 ≡ S r.second.0) (removed_at n rows) (still n rows (recursion_from_All (λ r. S r.first.0 ≡ S r.second.0) rows c)))
    (same n rows here hn)
  where
    still : (n : ℕ) (rows : List RelationRow) → ClosedRows S rows → ClosedRows S (removed_at n rows)
    still n [] c = tt
    still zero (row ∷ rows) c = c
    still (suc n) (row ∷ rows) c = (c.0, still n rows c.1)

    same : (n : ℕ) (rows : List RelationRow) → S (get_or rows n no_row).first.0 ≡ true → n < length rows
        → rows_within (outside S) rows ≡ rows_within (outside S) (removed_at n rows)
    same n [] h hn = refl
    same zero (row ∷ rows) h hn = rw h refl
    same (suc n) (row ∷ rows) h hn = ap (λ l. cond (not (S row.first.0)) (row ∷ l) l) (same n rows h (omega (arith, hn)))

-- The tags of clusters, and what a change leaves of the work on them.
use Rattle.std.proofs.Common.{◌≡◌, ◌∙◌, ◌<◌, ◌≤◌, ◌+◌, ◌-◌, ◌*◌, ◌==◌, ◌||◌, ℕ, zero, suc, Bool, true, false, cond, nat_lt, List, [], ◌∷◌, ◌++◌, length, length-append, map, filter, refl, sym, ap, inl, inr, arith}
use Rattle.std.specs.List.{range_with_len}
use Rattle.std.proofs.Math.Nat.{mul-le-mul}
use Rattle.std.proofs.lemmas.Bool.{cases_Bool, cases_lt, eqb-true, eq-eqb, lt-ltb, ltb-true, false_from_ne_true}
use Rattle.std.proofs.lemmas.List.{append-nil, append_assoc, map-append}
use Rattle.std.proofs.lemmas.List.Elements.{All-append, All-map, filter-append}
use Rattle.std.specs.Prelude.{All}
use Rattle.sibling_chains.specs.ClusterLaws.{joined-kept}
use Rattle.sibling_chains.specs.Clustered.{all_pairs, is_of_two, label_of}
use Rattle.sibling_chains.specs.Clusters.{labels, rows_within}
use Rattle.sibling_chains.specs.Following.{Pair}
use Rattle.sibling_chains.specs.Grouping.{is_either}
use Rattle.sibling_chains.specs.LabelLaws.{labels-finest, one-tie}
use Rattle.sibling_chains.specs.NumberLaws.{passed-le, passed-none}
use Rattle.sibling_chains.specs.Recorded.{pair_of, removed_at}
use Rattle.sibling_chains.specs.ChangeLaws.{count-removed, pairs-removed}
use Rattle.sibling_chains.specs.declared.relation_row.RelationRow.{RelationRow}
use Rattle.parent_closure.specs.LimitLaws.{AreBelow}
use Rattle.tag_relations.specs.Work.{cluster_rows, cluster_tags, cluster_work, is_beside}

-- ---- what passes one test passes another
module _ {X : Type 0} (p q : X → Bool) (passes : (x : X) → p x ≡ true → q x ≡ true) where
  fewer : (xs : List X) → length (filter p xs) ≤ length (filter q xs)
  fewer [] = omega arith
  fewer (x ∷ xs) = by (p x) (q x) (passes x) (fewer xs)
    where
      by : (b c : Bool) → (b ≡ true → c ≡ true) → length (filter p xs) ≤ length (filter q xs) → length (cond b (x ∷ filter p xs) (filter p xs)) ≤ length (cond c (x ∷ filter q xs) (filter q xs))
      by true true both rest = omega (arith, rest)
      by true false both rest = let no_way : false ≡ true = both refl in absurd (cc no_way)
      by false true both rest = omega (arith, rest)
      by false false both rest = rest

-- numbers that pass are below both ends, so either end tells them all
pub same-numbers : (p : ℕ → Bool) (n m : ℕ) → ((t : ℕ) → p t ≡ true → t < n) → ((t : ℕ) → p t ≡ true → t < m) → filter p (range_with_len 0 n) ≡ filter p (range_with_len 0 m)
same-numbers p n m below_n below_m = elim (cases_lt m n) [
  | inl more ↦ passed-none p m (n - m) n (omega (arith, more)) (λ j le lt. false_from_ne_true (p j) (λ is. let small = below_m j is in omega (arith, small, le)))
  | inr le ↦ sym (passed-none p n (m - n) m (omega (arith, le)) (λ j low lt. false_from_ne_true (p j) (λ is. let small = below_n j is in omega (arith, small, low))))
]

-- numbers below n that pass one test are numbers below m that pass another
fewer-numbers : (p q : ℕ → Bool) (n m : ℕ) → ((t : ℕ) → p t ≡ true → t < m) → ((t : ℕ) → p t ≡ true → q t ≡ true)
    → length (filter p (range_with_len 0 n)) ≤ length (filter q (range_with_len 0 m))
fewer-numbers p q n m below passes = elim (cases_lt m n) [
  | inl more ↦
      let none : (j : ℕ) → m ≤ j → j < n → p j ≡ false = λ j le lt. false_from_ne_true (p j) (λ is. let small = below j is in omega (arith, small, le)) in
      let same = passed-none p m (n - m) n (omega (arith, more)) none in
      rw same (fewer p q passes (range_with_len 0 m))
  | inr le ↦
      let some = fewer p q passes (range_with_len 0 n) in
      let more = passed-le q n (m - n) m (omega (arith, le)) in
      omega (arith, some, more)
]

-- ---- labels

or-true : (b : Bool) → (b || true) ≡ true
or-true true = refl
or-true false = refl

-- what keeps labels together keeps the tags of two clusters together
either-kept : (L M : ℕ → ℕ) → ((x y : ℕ) → L x ≡ L y → M x ≡ M y) → (a b t : ℕ) → is_either (L a) (L b) (L t) ≡ true → is_either (M a) (M b) (M t) ≡ true
either-kept L M kept a b t is = elim (cases_Bool (L t == L a)) [
  | inl first ↦
      let same : (M t == M a) ≡ true = eq-eqb _ _ (kept t a (eqb-true _ _ first)) in
      rw same refl
  | inr other ↦
      let second : (L t == L b) ≡ true = sym (ap (λ (first : Bool). first || (L t == L b)) other) ∙ is in
      let same : (M t == M b) ≡ true = eq-eqb _ _ (kept t b (eqb-true _ _ second)) in
      rw same (or-true (M t == M a))
]

-- the tags of one cluster are among those of two
one-of-two : (L : ℕ → ℕ) (a b t : ℕ) → is_either (L a) (L a) (L t) ≡ true → is_either (L a) (L b) (L t) ≡ true
one-of-two L a b t is = by (L t == L a) (L t == L b) is where
  by : (first second : Bool) → first || first ≡ true → first || second ≡ true
  by true second e = refl
  by false second e = absurd (cc e)

-- one more pair keeps labels together
pair-kept : (before later : List Pair) (p : Pair) (x y : ℕ) → labels (before ++ later) x ≡ labels (before ++ later) y → labels (before ++ p ∷ later) x ≡ labels (before ++ p ∷ later) y
pair-kept before later p x y same = one-tie before later p x ∙ joined-kept p (labels (before ++ later)) x y same ∙ sym (one-tie before later p y)

-- the labels of all pairs ever recorded
abbrev label : List RelationRow → List RelationRow → ℕ → ℕ
label siblings parents = label_of siblings (map pair_of parents)

sibling-kept : (siblings parents : List RelationRow) (row : RelationRow) (x y : ℕ) → label siblings parents x ≡ label siblings parents y
    → label (siblings ++ row ∷ []) parents x ≡ label (siblings ++ row ∷ []) parents y
sibling-kept siblings parents row x y same =
    let pairs : all_pairs (siblings ++ row ∷ []) (map pair_of parents) ≡ map pair_of siblings ++ pair_of row ∷ map pair_of parents =
    ap (λ (l : List Pair). l ++ map pair_of parents) (map-append pair_of siblings (row ∷ [])) ∙ append_assoc (map pair_of siblings) (pair_of row ∷ []) (map pair_of parents) in
    let told = λ (t : ℕ). ap (λ (l : List Pair). labels l t) pairs in
    told x ∙ pair-kept (map pair_of siblings) (map pair_of parents) (pair_of row) x y same ∙ sym (told y)

parent-kept : (siblings parents : List RelationRow) (row : RelationRow) (x y : ℕ) → label siblings parents x ≡ label siblings parents y
    → label siblings (parents ++ row ∷ []) x ≡ label siblings (parents ++ row ∷ []) y
parent-kept siblings parents row x y same =
    let old : List Pair = all_pairs siblings (map pair_of parents) in
    let pairs : all_pairs siblings (map pair_of (parents ++ row ∷ [])) ≡ old ++ pair_of row ∷ [] =
    ap (λ (l : List Pair). map pair_of siblings ++ l) (map-append pair_of parents (row ∷ [])) ∙ sym (append_assoc (map pair_of siblings) (map pair_of parents) (pair_of row ∷ [])) in
    let told = λ (t : ℕ). ap (λ (l : List Pair). labels l t) pairs in
    let here : labels (old ++ []) x ≡ labels (old ++ []) y = rw (append-nil old) same in
    told x ∙ pair-kept old [] (pair_of row) x y here ∙ sym (told y)

-- ---- tags of clusters are there

-- 0 below m, and 1 from there on
abbrev side : ℕ → ℕ → ℕ
side m t = cond (nat_lt t m) 0 1

side-below : (m t : ℕ) → t < m → side m t ≡ 0
side-below m t lt = rw (lt-ltb t m lt) refl

below-side : (m t : ℕ) → side m t ≡ 0 → t < m
below-side m t is = elim (cases_lt t m) [ inl lt ↦ lt | inr le ↦ absurd (past (false_from_ne_true (nat_lt t m) (λ lt. let small = ltb-true t m lt in omega (arith, small, le)))) ] where
  past : nat_lt t m ≡ false → ⊥
  past no_lt = let one = ap {B = ℕ} (λ (b : Bool). cond b 0 1) no_lt in cc (one, is)

sides : (m : ℕ) (rows : List RelationRow) → AreBelow m rows → All (λ (p : Pair). side m p.0 ≡ side m p.1) (map pair_of rows)
sides m rows there = All-map (λ (p : Pair). side m p.0 ≡ side m p.1) pair_of rows (λ k d lt. let at = there k d lt in side-below m _ at.0 ∙ sym (side-below m _ at.1))

-- the tags of the clusters of tags below m are below m, where those of the rows are
pub beside-below : (siblings parents : List RelationRow) (m a b : ℕ) → AreBelow m siblings → AreBelow m parents → a < m → b < m → (t : ℕ) → is_beside siblings parents a b t ≡ true → t < m
beside-below siblings parents m a b there also below_a below_b t is =
    let all : All (λ (p : Pair). side m p.0 ≡ side m p.1) (all_pairs siblings (map pair_of parents)) =
    All-append (λ (p : Pair). side m p.0 ≡ side m p.1) (map pair_of siblings) (map pair_of parents) (sides m siblings there) (sides m parents also) in
    let one_side = labels-finest (all_pairs siblings (map pair_of parents)) (side m) all in
    elim (cases_Bool (label siblings parents t == label siblings parents a)) [
      | inl first ↦ below-side m t (one_side t a (eqb-true _ _ first) ∙ side-below m a below_a)
      | inr other ↦
          let second : (label siblings parents t == label siblings parents b) ≡ true = sym (ap (λ (first : Bool). first || (label siblings parents t == label siblings parents b)) other) ∙ is in
          below-side m t (one_side t b (eqb-true _ _ second) ∙ side-below m b below_b)
    ]

-- ---- the work

product : (p q t u : ℕ) → p ≤ q → t ≤ u → (1 + p) * (1 + t) ≤ (1 + q) * (1 + u)
product p q t u rows tags = mul-le-mul {n₁ = 1 + p} {m₁ = 1 + t} {n₂ = 1 + q} {m₂ = 1 + u} (omega (arith, rows)) (omega (arith, tags))

-- both factors by themselves
pub some-work : (p t : ℕ) → p + t + 1 ≤ (1 + p) * (1 + t)
some-work p zero = omega arith
some-work p (suc t) =
    let rest = some-work p t in
    let step : (1 + p) * (1 + suc t) ≡ (1 + p) * (1 + t) + (1 + p) = omega arith in
    omega (arith, rest, step)

pub rows-kept : (p q : ℕ → Bool) (rows : List RelationRow) → ((t : ℕ) → p t ≡ true → q t ≡ true) → length (rows_within p rows) ≤ length (rows_within q rows)
rows-kept p q rows passes = fewer (λ (row : RelationRow). p row.first.0) (λ row. q row.first.0) (λ row. passes row.first.0) rows

rows-more : (q : ℕ → Bool) (rows : List RelationRow) (row : RelationRow) → length (rows_within q rows) ≤ length (rows_within q (rows ++ row ∷ []))
rows-more q rows row =
    let parts = ap length (filter-append (λ (r : RelationRow). q r.first.0) rows (row ∷ [])) in
    let count = length-append (rows_within q rows) (rows_within q (row ∷ [])) in
    omega (arith, parts, count)

module _ (siblings parents : List RelationRow) (n m a b : ℕ) (there : AreBelow m siblings) (also : AreBelow m parents) (below_a : a < m) where
  -- one more sibling row
  pub work-sibling : (row : RelationRow) → b < m → cluster_work siblings parents n a b ≤ cluster_work (siblings ++ row ∷ []) parents m a b
  work-sibling row below_b =
      let p : ℕ → Bool = is_beside siblings parents a b in
      let q : ℕ → Bool = is_beside (siblings ++ row ∷ []) parents a b in
      let passes : (t : ℕ) → p t ≡ true → q t ≡ true = either-kept (label siblings parents) (label (siblings ++ row ∷ []) parents) (sibling-kept siblings parents row) a b in
      let first = rows-kept p q siblings passes in
      let more = rows-more q siblings row in
      let second = rows-kept p q parents passes in
      product _ _ _ _ (omega (arith, first, more, second)) (fewer-numbers p q n m (beside-below siblings parents m a b there also below_a below_b) passes)

  -- one more parent row
  pub work-parent : (row : RelationRow) → b < m → cluster_work siblings parents n a b ≤ cluster_work siblings (parents ++ row ∷ []) m a b
  work-parent row below_b =
      let p : ℕ → Bool = is_beside siblings parents a b in
      let q : ℕ → Bool = is_beside siblings (parents ++ row ∷ []) a b in
      let passes : (t : ℕ) → p t ≡ true → q t ≡ true = either-kept (label siblings parents) (label siblings (parents ++ row ∷ [])) (parent-kept siblings parents row) a b in
      let first = rows-kept p q siblings passes in
      let second = rows-kept p q parents passes in
      let more = rows-more q parents row in
      product _ _ _ _ (omega (arith, first, more, second)) (fewer-numbers p q n m (beside-below siblings parents m a b there also below_a below_b) passes)

  -- a sibling row less
  pub work-no-sibling : (place : ℕ) → cluster_work siblings parents n a a ≤ cluster_work (removed_at place siblings) parents m a b
  work-no-sibling place =
      let p : ℕ → Bool = is_beside siblings parents a a in
      let q : ℕ → Bool = is_beside (removed_at place siblings) parents a b in
      let same : (t : ℕ) → is_beside (removed_at place siblings) parents a b t ≡ is_beside siblings parents a b t =
      λ t. ap (λ (pairs : List Pair). is_either (labels (pairs ++ map pair_of parents) a) (labels (pairs ++ map pair_of parents) b) (labels (pairs ++ map pair_of parents) t)) (pairs-removed place siblings) in
      let passes : (t : ℕ) → p t ≡ true → q t ≡ true = λ t is. same t ∙ one-of-two (label siblings parents) a b t is in
      let first = rows-kept p q siblings passes in
      let count = count-removed q place siblings in
      let second = rows-kept p q parents passes in
      product _ _ _ _ (omega (arith, first, count, second)) (fewer-numbers p q n m (beside-below siblings parents m a a there also below_a below_a) passes)

  -- a parent row less
  pub work-no-parent : (place : ℕ) → cluster_work siblings parents n a a ≤ cluster_work siblings (removed_at place parents) m a b
  work-no-parent place =
      let p : ℕ → Bool = is_beside siblings parents a a in
      let q : ℕ → Bool = is_beside siblings (removed_at place parents) a b in
      let same : (t : ℕ) → is_beside siblings (removed_at place parents) a b t ≡ is_beside siblings parents a b t =
      λ t. ap (λ (pairs : List Pair). is_of_two siblings pairs a b t) (pairs-removed place parents) in
      let passes : (t : ℕ) → p t ≡ true → q t ≡ true = λ t is. same t ∙ one-of-two (label siblings parents) a b t is in
      let first = rows-kept p q siblings passes in
      let second = rows-kept p q parents passes in
      let count = count-removed q place parents in
      product _ _ _ _ (omega (arith, first, count, second)) (fewer-numbers p q n m (beside-below siblings parents m a a there also below_a below_a) passes)

-- the cluster of one tag is no more than those of two
pub work-one : (siblings parents : List RelationRow) (n a b : ℕ) → cluster_work siblings parents n a a ≤ cluster_work siblings parents n a b
work-one siblings parents n a b =
    let p : ℕ → Bool = is_beside siblings parents a a in
    let q : ℕ → Bool = is_beside siblings parents a b in
    let passes : (t : ℕ) → p t ≡ true → q t ≡ true = one-of-two (label siblings parents) a b in
    let first = rows-kept p q siblings passes in
    let second = rows-kept p q parents passes in
    product _ _ _ _ (omega (arith, first, second)) (fewer p q passes (range_with_len 0 n))

-- there is always some
pub work-some : (siblings parents : List RelationRow) (n a b : ℕ) → 1 ≤ cluster_work siblings parents n a b
work-some siblings parents n a b = let some = some-work (cluster_rows siblings parents a b) (cluster_tags siblings parents n a b) in omega (arith, some)

-- the work is told by any end below which all pairs are
pub work-ends : (siblings parents : List RelationRow) (n m a : ℕ) → AreBelow m siblings → AreBelow m parents → a < m → cluster_work siblings parents n a a ≤ cluster_work siblings parents m a a
work-ends siblings parents n m a there also below_a =
    let p : ℕ → Bool = is_beside siblings parents a a in
    product _ _ _ _ (omega arith) (fewer-numbers p p n m (beside-below siblings parents m a a there also below_a below_a) (λ t is. is))

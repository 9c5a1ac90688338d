-- What is above a tag, and sets of tags that are closed under the rows.
use Rattle.std.proofs.Common.{◌≡◌, ◌∙◌, ℕ, zero, suc, ◌≤◌, ◌==◌, ◌&&◌, ◌||◌, not, Bool, true, false, cond, List, [], ◌∷◌, length, map, filter, refl, sym, ap, inl, inr, arith, All}
use Rattle.std.specs.List.{AllByRecursion, list_any, range_with_len}
use Rattle.std.proofs.lemmas.Bool.{false≢true, cases_Bool, eqb-true, ne_eqb, and_parts, or_cases, or_left, or_right}
use Rattle.std.proofs.lemmas.List.Elements.{filter_agree, recursion_from_All}
use Rattle.std.proofs.lemmas.List.Sums.{length-filter, count_by-le-length}
use Rattle.sibling_chains.specs.Following.{Pair}
use Rattle.media_types.specs.declared.numbers.ServiceNo.{ServiceNo}
use Rattle.sibling_chains.specs.declared.relation_row.RelationRow.{RelationRow}
use Rattle.sibling_chains.specs.Recorded.{ideal, pairs_in}
use Rattle.sibling_chains.specs.Clusters.{IsClosed, outside}
use Rattle.sibling_chains.specs.ClusterLaws.{alone, in-closed, in-within, outside-closed}
use Rattle.parent_closure.specs.Ancestors.{Relations, ancestors, between_ideals, ideal_of, implied, implies, is_above, leads, steps_of}
use Rattle.parent_closure.specs.Sets.{HaveSame, IsClosedFor, of_set, steps_within}
use Rattle.parent_closure.specs.ChainLaws.{any-within, chains-short, enough}

abbrev Closed : (ℕ → Bool) → List Pair → Type 0
Closed S pairs = AllByRecursion (λ p. S p.0 ≡ S p.1) pairs

abbrev within : (ℕ → Bool) → List Pair → List Pair
within S pairs = filter (λ p. S p.0) pairs

-- what a chain comes to lies in a set that holds what the pairs lead to
stays : (V : ℕ → Bool) (test : Pair → Bool) (b : ℕ) (pairs : List Pair) → AllByRecursion (λ p. test p ≡ true → V p.1 ≡ true) pairs
    → list_any (λ p. test p && p.1 == b) pairs ≡ true → V b ≡ true
stays V test b [] h e = absurd (false≢true e)
stays V test b (p ∷ pairs) h e = elim (or_cases (test p && p.1 == b) (list_any (λ q. test q && q.1 == b) pairs) e) [
  | inl here ↦ let parts = and_parts (test p) (p.1 == b) here in ap V (sym (eqb-true p.1 b parts.1)) ∙ h.0 parts.0
  | inr there ↦ stays V test b pairs h.1 there
]

leads-stays : (pairs : List Pair) (a : ℕ) (V : ℕ → Bool) → AllByRecursion (λ p. (p.0 == a || V p.0) ≡ true → V p.1 ≡ true) pairs
    → (n b : ℕ) → leads n pairs a b ≡ true → V b ≡ true
leads-stays pairs a V h zero b e = absurd (false≢true e)
leads-stays pairs a V h (suc n) b e = stays V (λ p. p.0 == a || leads n pairs a p.0) b pairs (all (leads-stays pairs a V h n) pairs h) e
  where
    all : ((c : ℕ) → leads n pairs a c ≡ true → V c ≡ true) → (qs : List Pair) → AllByRecursion (λ p. (p.0 == a || V p.0) ≡ true → V p.1 ≡ true) qs
        → AllByRecursion (λ p. (p.0 == a || leads n pairs a p.0) ≡ true → V p.1 ≡ true) qs
    all rest [] h = tt
    all rest (q ∷ qs) h = (
      λ t. h.0 (elim (or_cases (q.0 == a) (leads n pairs a q.0) t) [
        | inl here ↦ or_left (q.0 == a) (V q.0) here
        | inr there ↦ or_right (q.0 == a) (V q.0) (rest q.0 there)
      ]),
      all rest qs h.1,
    )

equal-tests : (x y : Bool) → (x ≡ true → y ≡ true) → (y ≡ true → x ≡ true) → x ≡ y
equal-tests true true f g = refl
equal-tests false false f g = refl
equal-tests true false f g = sym (f refl)
equal-tests false true f g = g refl

-- a set that holds the parents of a and of its own tags, and none to which no chain leads, is all that is above a
pub closed-above : (pairs : List Pair) (a : ℕ) (V : ℕ → Bool) → All (λ p. (p.0 == a || V p.0) ≡ true → V p.1 ≡ true) pairs
    → ((b : ℕ) → V b ≡ true → (n : ℕ) × (leads n pairs a b ≡ true)) → (b : ℕ) → V b ≡ is_above pairs a b
closed-above pairs a V h reached b =
    equal-tests (V b) (is_above pairs a b)
    (λ v. let r = reached b v in chains-short pairs r.0 a b r.1)
    (leads-stays pairs a V (recursion_from_All (λ p. (p.0 == a || V p.0) ≡ true → V p.1 ≡ true) pairs h) (length pairs) b)

-- a chain from a tag of a closed set
leads-inside : (S : ℕ → Bool) (pairs : List Pair) (a : ℕ) → Closed S pairs → S a ≡ true → (n b : ℕ) → leads n pairs a b ≡ true → S b ≡ true
leads-inside S pairs a c here = leads-stays pairs a S (all pairs c)
  where
    all : (qs : List Pair) → Closed S qs → AllByRecursion (λ p. (p.0 == a || S p.0) ≡ true → S p.1 ≡ true) qs
    all [] c = tt
    all (q ∷ qs) c = (
      λ t. elim (or_cases (q.0 == a) (S q.0) t) [
        | inl is ↦ sym c.0 ∙ ap S (eqb-true q.0 a is) ∙ here
        | inr in-it ↦ sym c.0 ∙ in-it
      ],
      all qs c.1,
    )

none-of : (x : Bool) → (x ≡ true → ⊥) → x ≡ false
none-of true h = absurd (h refl)
none-of false h = refl

leads-within : (S : ℕ → Bool) (pairs : List Pair) (a : ℕ) → Closed S pairs → S a ≡ true → (n b : ℕ) → leads n (within S pairs) a b ≡ leads n pairs a b
leads-within S pairs a c here zero b = refl
leads-within S pairs a c here (suc n) b =
    any-within S (λ p. (p.0 == a || leads n (within S pairs) a p.0) && p.1 == b) (λ p. (p.0 == a || leads n pairs a p.0) && p.1 == b)
    (λ p out. rw (
      ne_eqb p.0 a (λ is. false≢true (sym out ∙ ap S is ∙ here)),
      none-of (leads n pairs a p.0) (λ l. false≢true (sym out ∙ leads-inside S pairs a c here n p.0 l)),
    ) refl)
    (let rest = leads-within S pairs a c here n in λ p. ap (λ l. (p.0 == a || l) && p.1 == b) (rest p.0)) pairs

above-within : (S : ℕ → Bool) (pairs : List Pair) (a : ℕ) → Closed S pairs → S a ≡ true → (b : ℕ) → is_above (within S pairs) a b ≡ is_above pairs a b
above-within S pairs a c here b =
    let few : length (within S pairs) ≤ length pairs = omega (arith, length-filter (λ (p : Pair). S p.0) pairs, count_by-le-length (λ (p : Pair). S p.0) pairs) in
    sym (enough (within S pairs) a (length pairs) b few) ∙ leads-within S pairs a c here (length pairs) b

-- pairs between the ideal tags of a closed set
module _ (S : ℕ → Bool) (I J : ℕ → ℕ) (split : (t : ℕ) → S (J t) ≡ S t) (same : (t : ℕ) → S t ≡ true → I t ≡ J t) where
  map-closed : (pairs : List Pair) → Closed S pairs → Closed S (map (between_ideals J) pairs)
  map-closed [] c = tt
  map-closed (p ∷ pairs) c = (split p.0 ∙ c.0 ∙ sym (split p.1), map-closed pairs c.1)

  map-within : (pairs : List Pair) → Closed S pairs → map (between_ideals I) (within S pairs) ≡ within S (map (between_ideals J) pairs)
  map-within [] c = refl
  map-within (p ∷ pairs) c = by (S p.0) refl (map-within pairs c.1)
    where
      by : (b : Bool) → S p.0 ≡ b → map (between_ideals I) (within S pairs) ≡ within S (map (between_ideals J) pairs)
          → map (between_ideals I) (cond b (p ∷ within S pairs) (within S pairs))
          ≡ cond (S (J p.0)) (between_ideals J p ∷ within S (map (between_ideals J) pairs)) (within S (map (between_ideals J) pairs))
      by true e rest = rw (split p.0, e, same p.0 e, same p.1 (sym c.0 ∙ e), rest) refl
      by false e rest = rw (split p.0, e) rest

split-by : (S : ℕ → Bool) (order : List ServiceNo) (rows : List RelationRow) → IsClosed S rows → (t : ℕ) → S (ideal order rows t) ≡ S t
split-by S order rows c t = elim (cases_Bool (S t)) [
  | inl here ↦ (alone S order rows c t here).1 ∙ sym here
  | inr there ↦ not-back (S (ideal order rows t)) (S t) (let out = alone (outside S) order rows (outside-closed S rows c) t (ap not there) in out.1) there
]
  where
    not-back : (x y : Bool) → not x ≡ true → y ≡ false → x ≡ y
    not-back false y h e = sym e
    not-back true y h e = absurd (false≢true h)

-- the rows of a closed set alone say what its tags imply
pub imply-alone : (S : ℕ → Bool) (R : Relations) → IsClosedFor S R → (t : ℕ) → S t ≡ true → (b : ℕ) → implies (of_set S R) t b ≡ implies R t b
unfolding implies
imply-alone S R c t here b =
    let J : ℕ → ℕ = ideal_of R in
    let I : ℕ → ℕ = ideal_of (of_set S R) in
    let same : (u : ℕ) → S u ≡ true → I u ≡ J u = λ u s. (alone S R.sibling_order R.siblings c.0 u s).0 in
    let split : (u : ℕ) → S (J u) ≡ S u = split-by S R.sibling_order R.siblings c.0 in
    let pairs : List Pair = pairs_in R.parent_order R.parents in
    let closed : Closed S pairs = in-closed S R.parent_order R.parents (recursion_from_All (λ row. S row.first.0 ≡ S row.second.0) R.parents c.1) in
    let steps : steps_of (of_set S R) ≡ within S (steps_of R) =
    ap (map (between_ideals I)) (sym (in-within S R.parent_order R.parents)) ∙ map-within S I J split same pairs closed in
    ap (λ i. b == i || is_above (steps_of (of_set S R)) i b) (same t here)
    ∙ ap (λ l. b == J t || is_above l (J t) b) steps
    ∙ ap (λ x. b == J t || x) (above-within S (steps_of R) (J t) (map-closed S I J split same pairs closed) (split t ∙ here) b)

-- where relations differ in the rows of a closed set alone, the other tags imply what they did
pub others-imply : (S : ℕ → Bool) (Q R : Relations) → IsClosedFor S Q → IsClosedFor S R → of_set (outside S) Q ≡ of_set (outside S) R
    → (t b : ℕ) → implies R t b ≡ cond (S t) (implies (of_set S R) t b) (implies Q t b)
others-imply S Q R c d same t b = elim (cases_Bool (S t)) [
  | inl here ↦ rw here (sym (imply-alone S R d t here b))
  | inr there ↦
      let out : outside S t ≡ true = ap not there in
      rw there (sym (imply-alone (outside S) R (outside-closed S R.siblings d.0, outside-closed S R.parents d.1) t out b)
      ∙ ap (λ r. implies r t b) (sym same)
      ∙ imply-alone (outside S) Q (outside-closed S Q.siblings c.0, outside-closed S Q.parents c.1) t out b)
]

-- what a tag of a closed set implies lies in it
pub implied-inside : (S : ℕ → Bool) (R : Relations) → IsClosedFor S R → (t : ℕ) → S t ≡ true → (b : ℕ) → implies R t b ≡ true → S b ≡ true
unfolding implies
implied-inside S R c t here b told =
    let J : ℕ → ℕ = ideal_of R in
    let split : (u : ℕ) → S (J u) ≡ S u = split-by S R.sibling_order R.siblings c.0 in
    let closed : Closed S (pairs_in R.parent_order R.parents) = in-closed S R.parent_order R.parents (recursion_from_All (λ row. S row.first.0 ≡ S row.second.0) R.parents c.1) in
    elim (or_cases (b == J t) (is_above (steps_of R) (J t) b) told) [
      | inl own ↦ ap S (eqb-true b (J t) own) ∙ split t ∙ here
      | inr led ↦ leads-inside S (steps_of R) (J t) (map-closed S J J split (λ u s. refl) (pairs_in R.parent_order R.parents) closed) (split t ∙ here) (length (steps_of R)) b led
    ]

-- ---- the pairs of a closed set

-- chains depend on which pairs there are alone
same-leads : (xs ys : List Pair) → HaveSame xs ys → (n a b : ℕ) → leads n xs a b ≡ leads n ys a b
same-leads xs ys same zero a b = refl
same-leads xs ys same (suc n) a b =
    any-equal (λ p. (p.0 == a || leads n xs a p.0) && p.1 == b) (λ p. (p.0 == a || leads n ys a p.0) && p.1 == b)
    (let rest = same-leads xs ys same n a in λ p. ap (λ (l : Bool). (p.0 == a || l) && p.1 == b) (rest p.0)) xs
    ∙ same (λ p. (p.0 == a || leads n ys a p.0) && p.1 == b)
  where
    any-equal : (f g : Pair → Bool) → ((p : Pair) → f p ≡ g p) → (pairs : List Pair) → list_any f pairs ≡ list_any g pairs
    any-equal f g e [] = refl
    any-equal f g e (p ∷ pairs) = rw (e p, any-equal f g e pairs) refl

pub same-above : (xs ys : List Pair) → HaveSame xs ys → (a b : ℕ) → is_above xs a b ≡ is_above ys a b
same-above xs ys same a b =
    equal-tests (is_above xs a b) (is_above ys a b)
    (λ e. chains-short ys (length xs) a b (sym (same-leads xs ys same (length xs) a b) ∙ e))
    (λ e. chains-short xs (length ys) a b (same-leads xs ys same (length ys) a b ∙ e))

-- the pairs of a closed set alone, between ideal tags, lead from its tags to what all pairs lead to
within-above : (S : ℕ → Bool) (R : Relations) (pairs : List Pair) → IsClosedFor S R → HaveSame pairs (steps_within S R) → (t : ℕ) → S t ≡ true → (b : ℕ)
    → is_above pairs (ideal_of R t) b ≡ is_above (steps_of R) (ideal_of R t) b
within-above S R pairs c same t here b =
    let J : ℕ → ℕ = ideal_of R in
    let split : (u : ℕ) → S (J u) ≡ S u = split-by S R.sibling_order R.siblings c.0 in
    let all : List Pair = pairs_in R.parent_order R.parents in
    let closed : Closed S all = in-closed S R.parent_order R.parents (recursion_from_All (λ row. S row.first.0 ≡ S row.second.0) R.parents c.1) in
    let steps : steps_within S R ≡ within S (steps_of R) =
    ap (map (between_ideals J)) (sym (in-within S R.parent_order R.parents)) ∙ map-within S J J split (λ u s. refl) all closed in
    same-above pairs (steps_within S R) same (J t) b
    ∙ ap (λ l. is_above l (J t) b) steps
    ∙ above-within S (steps_of R) (J t) (map-closed S J J split (λ u s. refl) all closed) (split t ∙ here) b

-- they say what its tags imply
pub within-imply : (S : ℕ → Bool) (R : Relations) (pairs : List Pair) → IsClosedFor S R → HaveSame pairs (steps_within S R) → (t : ℕ) → S t ≡ true → (b : ℕ)
    → (b == ideal_of R t || is_above pairs (ideal_of R t) b) ≡ implies R t b
unfolding implies
within-imply S R pairs c same t here b = ap (λ x. b == ideal_of R t || x) (within-above S R pairs c same t here b)

-- they say it of all n tags
pub within-implied : (S : ℕ → Bool) (R : Relations) (pairs : List Pair) → IsClosedFor S R → HaveSame pairs (steps_within S R) → (n t : ℕ) → S t ≡ true
    → filter (λ b. b == ideal_of R t || is_above pairs (ideal_of R t) b) (range_with_len 0 n) ≡ implied n R t
within-implied S R pairs c same n t here =
    filter_agree (λ b. b == ideal_of R t || is_above pairs (ideal_of R t) b) (implies R t) (within-imply S R pairs c same t here) (range_with_len 0 n)

-- and they say which of n tags are ancestors
pub within-ancestors : (S : ℕ → Bool) (R : Relations) (pairs : List Pair) → IsClosedFor S R → HaveSame pairs (steps_within S R) → (n t : ℕ) → S t ≡ true
    → filter (λ b. not (b == ideal_of R t) && is_above pairs (ideal_of R t) b) (range_with_len 0 n) ≡ ancestors n R t
unfolding ancestors
within-ancestors S R pairs c same n t here =
    filter_agree (λ b. not (b == ideal_of R t) && is_above pairs (ideal_of R t) b) (λ b. not (b == ideal_of R t) && is_above (steps_of R) (ideal_of R t) b)
    (λ b. ap (λ x. not (b == ideal_of R t) && x) (within-above S R pairs c same t here b)) (range_with_len 0 n)

-- Where a change leaves which tag would imply too many.
use Rattle.std.proofs.Common.{◌≡◌, ◌∙◌, ◌⊎◌, ℕ, zero, suc, ◌+◌, ◌-◌, ◌<◌, ◌≤◌, ◌==◌, ◌&&◌, ◌||◌, not, Bool, true, false, cond, nat_lt, Some, None, Option, option_map, List, [], ◌∷◌, length, map, filter, refl, sym, ap, inl, inr, arith}
use Rattle.std.specs.Prelude.{find}
use Rattle.std.specs.List.{All, AllByRecursion, range_with_len}
use Rattle.std.specs.Option.{option_or}
use Rattle.std.proofs.lemmas.Bool.{false≢true, cases_lt, lt-ltb, le-ltb, ltb-true, eqb-true, ne_eqb, false_from_ne_true}
use Rattle.std.proofs.lemmas.List.Elements.{filter_agree, recursion_from_All}
use Rattle.media_types.specs.declared.numbers.ServiceNo.{ServiceNo}
use Rattle.sibling_chains.specs.declared.relation_row.RelationRow.{RelationRow}
use Rattle.sibling_chains.specs.Clusters.{IsClosed, outside, rows_within}
use Rattle.sibling_chains.specs.ClusterLaws.{alone, outside-closed}
use Rattle.sibling_chains.specs.NumberLaws.{passed-none}
use Rattle.sibling_chains.specs.Following.{ideal_by}
use Rattle.sibling_chains.specs.Recorded.{ideal, pairs_in}
use Rattle.tag_types.specs.declared.limits.TheConstants.{MAX_IMPLIED}
use Rattle.parent_closure.specs.Ancestors.{Relations, ancestors, between_ideals, ideal_of, implied, implies, is_above, is_over, steps_of}
use Rattle.parent_closure.specs.Limits.{first_some, over_among, over_in, over_limit}
use Rattle.parent_closure.specs.Sets.{IsClosedFor, of_set}
use Rattle.parent_closure.specs.SetLaws.{imply-alone, implied-inside, others-imply}

-- ---- the first of a list

-- what stands among n numbers from a on
abbrev IsAmong : ℕ → ℕ → ℕ → Type 0
IsAmong a n t = (a ≤ t) × (t < a + n)

-- where those outside a set don't pass, the first that passes is the first of the set
find-within : (test S : ℕ → Bool) (n a : ℕ) → ((t : ℕ) → IsAmong a n t → S t ≡ false → test t ≡ false)
    → find test (range_with_len a n) ≡ find test (filter S (range_with_len a n))
find-within test S zero a h = refl
find-within test S (suc n) a h =
    by (S a) refl (find-within test S n (a + 1) (λ t among out. h t (omega (arith, among.0), omega (arith, among.1)) out))
  where
    by : (b : Bool) → S a ≡ b → find test (range_with_len (a + 1) n) ≡ find test (filter S (range_with_len (a + 1) n))
        → find test (a ∷ range_with_len (a + 1) n) ≡ find test (cond b (a ∷ filter S (range_with_len (a + 1) n)) (filter S (range_with_len (a + 1) n)))
    by true e rest = ap (λ found. cond (test a) (Some a) found) rest
    by false e rest = rw (h a (omega arith, omega arith) e) rest

none-of : (test : ℕ → Bool) (n a : ℕ) → find test (range_with_len a n) ≡ None → (t : ℕ) → IsAmong a n t → test t ≡ false
none-of test zero a none t among = absurd (omega (arith, among.0, among.1))
none-of test (suc n) a none t among =
    by (test a) refl none (λ rest later. none-of test n (a + 1) rest t (omega (arith, later), omega (arith, among.1)))
    (elim (cases_lt a t) [ inl later ↦ inr later | inr not_later ↦ inl (omega (arith, not_later, among.0)) ])
  where
    by : (b : Bool) → test a ≡ b → cond b (Some a) (find test (range_with_len (a + 1) n)) ≡ None → (find test (range_with_len (a + 1) n) ≡ None → a < t → test t ≡ false)
        → (t ≡ a) ⊎ (a < t) → test t ≡ false
    by true e found rest place = absurd (cc found)
    by false e found rest (inl here) = ap test here ∙ e
    by false e found rest (inr later) = rest found later

-- none of the first n numbers passes
pub none-passes : (test : ℕ → Bool) (n : ℕ) → find test (range_with_len 0 n) ≡ None → (t : ℕ) → t < n → test t ≡ false
none-passes test n none t lt = none-of test n 0 none t (omega arith, omega (arith, lt))

none-from : (test : ℕ → Bool) (n a : ℕ) → ((t : ℕ) → IsAmong a n t → test t ≡ false) → find test (range_with_len a n) ≡ None
none-from test zero a h = refl
none-from test (suc n) a h = rw (h a (omega arith, omega arith)) (none-from test n (a + 1) (λ t among. h t (omega (arith, among.0), omega (arith, among.1))))

pub none-found : (test : ℕ → Bool) (n : ℕ) → ((t : ℕ) → t < n → test t ≡ false) → find test (range_with_len 0 n) ≡ None
none-found test n h = none-from test n 0 (λ t among. h t (omega (arith, among.1)))

-- ---- the first of some services

first-same : {B : Type 0} (f g : ℕ → Option B) (n a : ℕ) → ((s : ℕ) → IsAmong a n s → f s ≡ g s) → first_some f (range_with_len a n) ≡ first_some g (range_with_len a n)
first-same f g zero a h = refl
first-same {B} f g (suc n) a h =
    ap (λ (x : Option B). option_or x (first_some f (range_with_len (a + 1) n))) (h a (omega arith, omega arith))
    ∙ ap (option_or (g a)) (first-same f g n (a + 1) (λ s among. h s (omega (arith, among.0), omega (arith, among.1))))

-- nothing is found in any of them
first-none : {B : Type 0} (f : ℕ → Option B) (n a : ℕ) → ((s : ℕ) → IsAmong a n s → f s ≡ None) → first_some f (range_with_len a n) ≡ None
first-none f zero a h = refl
first-none {B} f (suc n) a h =
    ap (λ (x : Option B). option_or x (first_some f (range_with_len (a + 1) n))) (h a (omega arith, omega arith))
    ∙ first-none f n (a + 1) (λ s among. h s (omega (arith, among.0), omega (arith, among.1)))

no-first : {B : Type 0} (f : ℕ → Option B) (n a : ℕ) → first_some f (range_with_len a n) ≡ None → (s : ℕ) → IsAmong a n s → f s ≡ None
no-first f zero a none s among = absurd (omega (arith, among.0, among.1))
no-first {B} f (suc n) a none s among =
    by (f a) refl none (λ rest later. no-first f n (a + 1) rest s (omega (arith, later), omega (arith, among.1)))
    (elim (cases_lt a s) [ inl later ↦ inr later | inr not_later ↦ inl (omega (arith, not_later, among.0)) ])
  where
    by : (x : Option B) → f a ≡ x → option_or x (first_some f (range_with_len (a + 1) n)) ≡ None → (first_some f (range_with_len (a + 1) n) ≡ None → a < s → f s ≡ None)
        → (s ≡ a) ⊎ (a < s) → f s ≡ None
    by (Some y) e found rest place = absurd (cc found)
    by None e found rest (inl here) = ap f here ∙ e
    by None e found rest (inr later) = rest found later

-- where only one service can have something, that is the first
first-one : {B : Type 0} (f : ℕ → Option B) (n a k : ℕ) → IsAmong a n k → ((s : ℕ) → IsAmong a n s → (s ≡ k → ⊥) → f s ≡ None) → first_some f (range_with_len a n) ≡ f k
first-one f zero a k among h = absurd (omega (arith, among.0, among.1))
first-one {B} f (suc n) a k among h = elim (cases_lt a k) [
  | inl later ↦
      ap (λ (x : Option B). option_or x (first_some f (range_with_len (a + 1) n))) (h a (omega arith, omega arith) (λ same. omega (arith, same, later)))
      ∙ first-one f n (a + 1) k (omega (arith, later), omega (arith, among.1)) (λ s place other. h s (omega (arith, place.0), omega (arith, place.1)) other)
  | inr here ↦
      let is : k ≡ a = omega (arith, here, among.0) in
      let rest = first-none f n (a + 1) (λ s place. h s (omega (arith, place.0), omega (arith, place.1)) (λ same. omega (arith, same, is, place.0))) in
      ap (option_or (f a)) rest ∙ or-none (f a) ∙ ap f (sym is)
]
  where
    or-none : (x : Option B) → option_or x None ≡ x
    or-none None = refl
    or-none (Some y) = refl

-- a tag of a service
abbrev pub behind : ℕ → Option ℕ → Option (ℕ × ℕ)
behind s found = option_map (λ t. (s, t)) found

-- no tag of any service is over
pub none-over : (services n : ℕ) (R : ℕ → Relations) → over_limit services n R ≡ None → (s : ℕ) → s < services → (t : ℕ) → t < n → is_over n (R s) t ≡ false
none-over services n R none s lt =
    none-passes (is_over n (R s)) n (unmapped (find (is_over n (R s)) (range_with_len 0 n)) (no-first (over_in n R (range_with_len 0 n)) services 0 none s (omega arith, omega (arith, lt))))
  where
    unmapped : (found : Option ℕ) → behind s found ≡ None → found ≡ None
    unmapped None e = refl
    unmapped (Some t) e = absurd (cc e)

pub over-none : (services n : ℕ) (R : ℕ → Relations) → ((s : ℕ) → s < services → (t : ℕ) → t < n → is_over n (R s) t ≡ false) → over_limit services n R ≡ None
over-none services n R h =
    first-none (over_in n R (range_with_len 0 n)) services 0 (λ s among. ap (behind s) (none-found (is_over n (R s)) n (h s (omega (arith, among.1)))))

-- ---- more tags

abbrev pub below : ℕ → ℕ → Bool
below n t = nat_lt t n

-- a tag that is there implies none that isn't
implied-more : (n m : ℕ) (R : Relations) → n ≤ m → IsClosedFor (below n) R → (t : ℕ) → t < n → implied m R t ≡ implied n R t
implied-more n m R le closed t lt =
    passed-none (implies R t) n (m - n) m (omega (arith, le))
    (λ b low high. false_from_ne_true (implies R t b) (λ told. omega (arith, low, ltb-true b n (implied-inside (below n) R closed t (lt-ltb t n lt) b told))))

pub over-more : (n m : ℕ) (R : Relations) → n ≤ m → IsClosedFor (below n) R → (t : ℕ) → t < n → is_over m R t ≡ is_over n R t
over-more n m R le closed t lt = ap (λ list. nat_lt MAX_IMPLIED (length list)) (implied-more n m R le closed t lt)

-- ---- a change within a closed set

module _ (services n m : ℕ) (Q R : ℕ → Relations) (S : ℕ → Bool) (le : n ≤ m)
    (there : (s : ℕ) → IsClosedFor (below n) (Q s)) (before : (s : ℕ) → IsClosedFor S (Q s)) (after : (s : ℕ) → IsClosedFor S (R s))
    (same : (s : ℕ) → of_set (outside S) (Q s) ≡ of_set (outside S) (R s)) (new : (t : ℕ) → n ≤ t → t < m → S t ≡ true)
    (none : over_limit services n Q ≡ None) where
  kept : (s t : ℕ) → s < services → t < m → S t ≡ false → is_over m (R s) t ≡ false
  kept s t few lt out =
      let old : t < n = elim (cases_lt t n) [ inl less ↦ less | inr past ↦ absurd (false≢true (sym out ∙ new t past lt)) ] in
      let implied-so : implied m (R s) t ≡ implied m (Q s) t =
      filter_agree (implies (R s) t) (implies (Q s) t)
      (λ b. others-imply S (Q s) (R s) (before s) (after s) (same s) t b ∙ ap (λ c. cond c (implies (of_set S (R s)) t b) (implies (Q s) t b)) out) (range_with_len 0 m) in
      ap (λ list. nat_lt MAX_IMPLIED (length list)) implied-so ∙ over-more n m (Q s) le (there s) t old ∙ none-over services n Q none s few t old

  -- which tag would imply too many is told by the tags of the set alone
  pub over-changed : over_limit services m R ≡ over_among services m R (filter S (range_with_len 0 m))
  over-changed =
      first-same (over_in m R (range_with_len 0 m)) (over_in m R (filter S (range_with_len 0 m))) services 0
      (λ s among. ap (behind s) (find-within (is_over m (R s)) S m 0
      (λ t place out. kept s t (omega (arith, among.1)) (omega (arith, place.1)) out)))

-- the orders of one service change
pub over-ordered : (services n k : ℕ) (Q R : ℕ → Relations) → k < services → ((s : ℕ) → (s ≡ k → ⊥) → R s ≡ Q s) → over_limit services n Q ≡ None
    → over_limit services n R ≡ over_in n R (range_with_len 0 n) k
over-ordered services n k Q R lt other none =
    first-one (over_in n R (range_with_len 0 n)) services 0 k (omega arith, omega (arith, lt))
    (λ s among differs.
    ap (λ (q : Relations). behind s (find (is_over n q) (range_with_len 0 n))) (other s differs)
    ∙ ap (behind s) (none-found (is_over n (Q s)) n (none-over services n Q none s (omega (arith, among.1)))))

-- ---- tags without pairs

equal-none : (t n a : ℕ) → t < a → length (filter (λ b. b == t) (range_with_len a n)) ≡ 0
equal-none t zero a lt = refl
equal-none t (suc n) a lt = rw (ne_eqb a t (λ same. omega (arith, same, lt))) (equal-none t n (a + 1) (omega (arith, lt)))

equal-one : (t n a : ℕ) → length (filter (λ b. b == t) (range_with_len a n)) ≤ 1
equal-one t zero a = omega arith
equal-one t (suc n) a = by (a == t) refl (equal-one t n (a + 1))
  where
    by : (c : Bool) → (a == t) ≡ c → length (filter (λ b. b == t) (range_with_len (a + 1) n)) ≤ 1
        → length (cond c (a ∷ filter (λ b. b == t) (range_with_len (a + 1) n)) (filter (λ b. b == t) (range_with_len (a + 1) n))) ≤ 1
    by true e rest = let none = equal-none t n (a + 1) (omega (arith, eqb-true a t e)) in omega (arith, none)
    by false e rest = rest

-- without pairs a tag implies itself alone
alone-only : (R : Relations) (t : ℕ) → pairs_in R.sibling_order R.siblings ≡ [] → pairs_in R.parent_order R.parents ≡ [] → (b : ℕ) → implies R t b ≡ (b == t)
unfolding implies ideal
alone-only R t none_bad none_child b =
    let own : ideal_of R t ≡ t = rw none_bad refl in
    let steps : steps_of R ≡ [] = ap (map (between_ideals (ideal_of R))) none_child in
    rw (own, steps) (or-false (b == t))
  where
    or-false : (x : Bool) → (x || false) ≡ x
    or-false true = refl
    or-false false = refl

pub alone-few : (n : ℕ) (R : Relations) (t : ℕ) → pairs_in R.sibling_order R.siblings ≡ [] → pairs_in R.parent_order R.parents ≡ [] → is_over n R t ≡ false
alone-few n R t none_bad none_child =
    let few : length (implied n R t) ≤ 1 = rw (filter_agree (implies R t) (λ b. b == t) (alone-only R t none_bad none_child) (range_with_len 0 n)) (equal-one t n 0) in
    le-ltb MAX_IMPLIED (length (implied n R t)) (omega (arith, few))

-- no row has a tag of the set
abbrev pub IsFree : (ℕ → Bool) → List RelationRow → Type 0
IsFree S rows = rows_within S rows ≡ []

no-pairs : (order : List ServiceNo) → pairs_in order [] ≡ []
no-pairs [] = refl
no-pairs (s ∷ order) = no-pairs order

-- a tag without rows implies itself alone
module _ (S : ℕ → Bool) (R : Relations) (closed : IsClosedFor S R) (free_siblings : IsFree S R.siblings) (free_parents : IsFree S R.parents) (t : ℕ) (here : S t ≡ true) where
  free-only : (b : ℕ) → implies R t b ≡ (b == t)
  free-only b =
      sym (imply-alone S R closed t here b)
      ∙ alone-only (of_set S R) t (ap (pairs_in R.sibling_order) free_siblings ∙ no-pairs R.sibling_order) (ap (pairs_in R.parent_order) free_parents ∙ no-pairs R.parent_order) b

  free-few : (m : ℕ) → is_over m R t ≡ false
  free-few m =
      let few : length (implied m R t) ≤ 1 = rw (filter_agree (implies R t) (λ b. b == t) free-only (range_with_len 0 m)) (equal-one t m 0) in
      le-ltb MAX_IMPLIED (length (implied m R t)) (omega (arith, few))

  free-ideal : ideal_of R t ≡ t
  unfolding ideal
  free-ideal =
      sym (alone S R.sibling_order R.siblings closed.0 t here).0
      ∙ ap (λ rows. ideal R.sibling_order rows t) free_siblings ∙ ap (λ pairs. ideal_by pairs t) (no-pairs R.sibling_order)

  free-above-none : (m : ℕ) → ancestors m R t ≡ []
  unfolding ancestors implies
  free-above-none m =
      filter_agree (λ b. not (b == ideal_of R t) && is_above (steps_of R) (ideal_of R t) b) (λ b. false) none (range_with_len 0 m) ∙ none-kept (range_with_len 0 m)
    where
      by : (same above : Bool) → (same || above) ≡ same → (not same && above) ≡ false
      by true above e = refl
      by false above e = e

      none : (b : ℕ) → (not (b == ideal_of R t) && is_above (steps_of R) (ideal_of R t) b) ≡ false
      none b = by (b == ideal_of R t) (is_above (steps_of R) (ideal_of R t) b) (free-only b ∙ ap (λ i. b == i) (sym free-ideal))

      none-kept : (xs : List ℕ) → filter (λ b. false) xs ≡ []
      none-kept [] = refl
      none-kept (x ∷ xs) = none-kept xs

free-above : (n : ℕ) (rows : List RelationRow) → All (λ row. row.first.0 < n) rows → IsFree (outside (below n)) rows
free-above n rows all = free rows (recursion_from_All (λ row. row.first.0 < n) rows all)
  where
    free : (rows : List RelationRow) → AllByRecursion (λ (row : RelationRow). row.first.0 < n) rows → IsFree (outside (below n)) rows
    free [] h = refl
    free (row ∷ rows) h = rw (lt-ltb row.first.0 n h.0) (free rows h.1)

-- each row is of tags that are there
abbrev pub AreBelow : ℕ → List RelationRow → Type 0
AreBelow n rows = All (λ row. (row.first.0 < n) × (row.second.0 < n)) rows

pub below-closed : (n : ℕ) (rows : List RelationRow) → AreBelow n rows → IsClosed (below n) rows
below-closed n rows all = λ k d lt. let at = all k d lt in lt-ltb _ n at.0 ∙ sym (lt-ltb _ n at.1)

-- a tag that has no rows has no ancestors
pub new-ancestors : (n m : ℕ) (R : Relations) → AreBelow n R.siblings → AreBelow n R.parents → (t : ℕ) → n ≤ t → ancestors m R t ≡ []
new-ancestors n m R siblings parents t past =
    free-above-none (outside (below n)) R (outside-closed (below n) R.siblings (below-closed n R.siblings siblings), outside-closed (below n) R.parents (below-closed n R.parents parents))
    (free-above n R.siblings (λ k d lt. (siblings k d lt).0)) (free-above n R.parents (λ k d lt. (parents k d lt).0)) t (ap not (le-ltb t n past)) m

-- more tags, without pairs
pub over-tagged : (services n m : ℕ) (R : ℕ → Relations) → n ≤ m → ((s : ℕ) → AreBelow n (R s).siblings) → ((s : ℕ) → AreBelow n (R s).parents)
    → over_limit services n R ≡ None → over_limit services m R ≡ None
over-tagged services n m R le siblings parents none =
    over-none services m R (λ s few t lt. elim (cases_lt t n) [
      | inl old ↦ over-more n m (R s) le (below-closed n (R s).siblings (siblings s), below-closed n (R s).parents (parents s)) t old ∙ none-over services n R none s few t old
      | inr past ↦
          free-few (outside (below n)) (R s) (outside-closed (below n) (R s).siblings (below-closed n (R s).siblings (siblings s)), outside-closed (below n) (R s).parents (below-closed n (R s).parents (parents s)))
          (free-above n (R s).siblings (λ k d lt. (siblings s k d lt).0)) (free-above n (R s).parents (λ k d lt. (parents s k d lt).0)) t (ap not (le-ltb t n past)) m
    ])

-- ---- one more service

-- a service that takes its own pairs alone, and has none
pub over-served : (services n : ℕ) (Q R : ℕ → Relations) → ((s : ℕ) → s < services → R s ≡ Q s) → pairs_in (R services).sibling_order (R services).siblings ≡ []
    → pairs_in (R services).parent_order (R services).parents ≡ [] → over_limit services n Q ≡ None → over_limit (services + 1) n R ≡ None
over-served services n Q R old none_bad none_child none =
    over-none (services + 1) n R (λ s few t lt. elim (cases_lt s services) [
      | inl before ↦ ap (λ (q : Relations). is_over n q t) (old s before) ∙ none-over services n Q none s before t lt
      | inr last ↦ let is : s ≡ services = omega (arith, last, few) in ap (λ k. is_over n (R k) t) is ∙ alone-few n (R services) t none_bad none_child
    ])

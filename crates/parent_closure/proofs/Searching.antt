-- A search for all that pairs lead to from a tag: what is reached so far, and what waits.
use Rattle.std.proofs.Common.{◌≡◌, ◌∙◌, ◌⊎◌, ◌↔◌, ℕ, zero, suc, ◌+◌, ◌<◌, ◌≤◌, ◌==◌, ◌&&◌, ◌||◌, not, Bool, true, false, cond, List, [], ◌∷◌, ◌++◌, length, filter, take, drop, get_or, Contains, add-one, refl, sym, ap, subst, inl, inr, arith}
use Rattle.std.proofs.Math.Path.{fun_ext}
use Rattle.std.specs.List.{AllByRecursion, list_any}
use Rattle.std.proofs.lemmas.Bool.{false≢true, eqb-true, eq-eqb, and_parts, and_from, or_cases, or_left, or_right}
use Rattle.std.proofs.lemmas.List.{append_assoc, length_push, take-append-le, get_or_append_left}
use Rattle.std.proofs.lemmas.List.Elements.{All-from_recursion, filter_agree}
use Rattle.std.proofs.lemmas.List.Folds.{list_any-append, list_any_more}
use Rattle.sibling_chains.specs.Following.{Pair}
use Rattle.parent_closure.specs.Ancestors.{is_above, leads}
use Rattle.parent_closure.specs.Reached.{AreSeen, has, is_of_other, with_parents, with_tag}
use Rattle.parent_closure.specs.SetLaws.{closed-above}

append-none : (xs : List ℕ) → xs ++ [] ≡ xs
append-none [] = refl
append-none (x ∷ xs) = ap (λ l. x ∷ l) (append-none xs)

-- ---- a list with more tags
tag-there : (list : List ℕ) (b : ℕ) → has (with_tag list b) b ≡ true
tag-there list b = by (has list b) refl
  where
    or-true : (x : Bool) → (x || true) ≡ true
    or-true true = refl
    or-true false = refl

    by : (h : Bool) → has list b ≡ h → has (cond h list (list ++ b ∷ [])) b ≡ true
    by true e = e
    by false e = list_any-append (λ x. b == x) list (b ∷ []) ∙ ap (λ e. has list b || (e || false)) (eq-eqb b b refl) ∙ or-true (has list b)

tag-keeps : (list : List ℕ) (b c : ℕ) → has list c ≡ true → has (with_tag list b) c ≡ true
tag-keeps list b c h = by (has list b)
  where
    by : (x : Bool) → has (cond x list (list ++ b ∷ [])) c ≡ true
    by true = h
    by false = list_any-append (λ x. c == x) list (b ∷ []) ∙ or_left (has list c) (has (b ∷ []) c) h

-- what is there was there, or is the tag
tag-cases : (list : List ℕ) (b c : ℕ) → has (with_tag list b) c ≡ true → (has list c ≡ true) ⊎ (c ≡ b)
tag-cases list b c h = by (has list b) h
  where
    last : (x : Bool) → (c == b) ≡ x → (x || false) ≡ true → c ≡ b
    last true e h = eqb-true c b e
    last false e h = absurd (false≢true h)

    by : (x : Bool) → has (cond x list (list ++ b ∷ [])) c ≡ true → (has list c ≡ true) ⊎ (c ≡ b)
    by true h = inl h
    by false h = elim (or_cases (has list c) (has (b ∷ []) c) (sym (list_any-append (λ x. c == x) list (b ∷ [])) ∙ h)) [
      | inl old ↦ inl old
      | inr new ↦ inr (last (c == b) refl new)
    ]

tag-front : (list : List ℕ) (b : ℕ) → (more : List ℕ) × (with_tag list b ≡ list ++ more)
tag-front list b = by (has list b)
  where
    by : (x : Bool) → (more : List ℕ) × (cond x list (list ++ b ∷ []) ≡ list ++ more)
    by true = ([], sym (append-none list))
    by false = (b ∷ [], refl)

tag-length : (list : List ℕ) (b : ℕ) → length (with_tag list b) ≤ suc (length list)
tag-length list b = by (has list b)
  where
    by : (x : Bool) → length (cond x list (list ++ b ∷ [])) ≤ suc (length list)
    by true = omega arith
    by false = omega (arith, length_push list b)

-- ---- a list with the parents of a child
parents-keep : (child : ℕ) (pairs : List Pair) (list : List ℕ) (c : ℕ) → has list c ≡ true → has (with_parents child pairs list) c ≡ true
parents-keep child [] list c h = h
parents-keep child (p ∷ pairs) list c h = parents-keep child pairs (cond (p.0 == child) (with_tag list p.1) list) c (by (p.0 == child))
  where
    by : (x : Bool) → has (cond x (with_tag list p.1) list) c ≡ true
    by true = tag-keeps list p.1 c h
    by false = h

parents-there : (child : ℕ) (pairs : List Pair) (list : List ℕ) → AllByRecursion (λ p. (p.0 == child) ≡ true → has (with_parents child pairs list) p.1 ≡ true) pairs
parents-there child [] list = tt
parents-there child (p ∷ pairs) list = (
  λ is. parents-keep child pairs (cond (p.0 == child) (with_tag list p.1) list) p.1 (ap (λ x. has (cond x (with_tag list p.1) list) p.1) is ∙ tag-there list p.1),
  parents-there child pairs (cond (p.0 == child) (with_tag list p.1) list),
)

parents-cases : (child : ℕ) (pairs : List Pair) (list : List ℕ) (c : ℕ) → has (with_parents child pairs list) c ≡ true
    → (has list c ≡ true) ⊎ (list_any (λ p. p.0 == child && p.1 == c) pairs ≡ true)
parents-cases child [] list c h = inl h
parents-cases child (p ∷ pairs) list c h = elim (parents-cases child pairs (cond (p.0 == child) (with_tag list p.1) list) c h) [
  | inr later ↦ inr (or_right (p.0 == child && p.1 == c) (list_any (λ q. q.0 == child && q.1 == c) pairs) later)
  | inl now ↦ by (p.0 == child) refl now
]
  where
    by : (x : Bool) → (p.0 == child) ≡ x → has (cond x (with_tag list p.1) list) c ≡ true
        → (has list c ≡ true) ⊎ (list_any (λ q. q.0 == child && q.1 == c) (p ∷ pairs) ≡ true)
    by false e h = inl h
    by true e h = elim (tag-cases list p.1 c h) [
      | inl old ↦ inl old
      | inr new ↦ inr (or_left (p.0 == child && p.1 == c) (list_any (λ q. q.0 == child && q.1 == c) pairs) (and_from (p.0 == child) (p.1 == c) e (eq-eqb p.1 c (sym new))))
    ]

parents-front : (child : ℕ) (pairs : List Pair) (list : List ℕ) → (more : List ℕ) × (with_parents child pairs list ≡ list ++ more)
parents-front child [] list = ([], sym (append-none list))
parents-front child (p ∷ pairs) list =
    let one = by (p.0 == child) in
    let rest = parents-front child pairs (cond (p.0 == child) (with_tag list p.1) list) in
    (one.0 ++ rest.0, rest.1 ∙ ap (λ l. l ++ rest.0) one.1 ∙ append_assoc list one.0 rest.0)
  where
    by : (x : Bool) → (more : List ℕ) × (cond x (with_tag list p.1) list ≡ list ++ more)
    by true = tag-front list p.1
    by false = ([], sym (append-none list))

-- each pair of the child is a tag at most
pub parents-length : (child : ℕ) (pairs : List Pair) (list : List ℕ)
    → length (filter (is_of_other child) pairs) + length (with_parents child pairs list) ≤ length pairs + length list
parents-length child [] list = omega arith
parents-length child (p ∷ pairs) list = by (p.0 == child) (λ l. parents-length child pairs l)
  where
    by : (x : Bool) → ((l : List ℕ) → length (filter (is_of_other child) pairs) + length (with_parents child pairs l) ≤ length pairs + length l)
        → length (cond (not x) (p ∷ filter (is_of_other child) pairs) (filter (is_of_other child) pairs)) + length (with_parents child pairs (cond x (with_tag list p.1) list))
        ≤ suc (length pairs) + length list
    by true rest = omega (arith, rest (with_tag list p.1), tag-length list p.1)
    by false rest = omega (arith, rest list)

-- what waits makes the same of a list that has the parents of all else
same-parents : (x : ℕ) (test : Pair → Bool) (reached : List ℕ) (pairs : List Pair) (list : List ℕ) → AllByRecursion (λ p. test p ≡ true → has reached p.1 ≡ true) pairs
    → ((c : ℕ) → has reached c ≡ true → has list c ≡ true) → with_parents x (filter (λ p. not (test p)) pairs) list ≡ with_parents x pairs list
same-parents x test reached [] list done more = refl
same-parents x test reached (p ∷ pairs) list done more = by (test p) refl (same-parents x test reached pairs list done.1 more)
    (same-parents x test reached pairs (cond (p.0 == x) (with_tag list p.1) list) done.1 (λ c h. one (p.0 == x) c (more c h)))
  where
    one : (y : Bool) (c : ℕ) → has list c ≡ true → has (cond y (with_tag list p.1) list) c ≡ true
    one true c h = tag-keeps list p.1 c h
    one false c h = h

    no-more : (y : Bool) → has list p.1 ≡ true → cond y (with_tag list p.1) list ≡ list
    no-more true h = rw h refl
    no-more false h = refl

    by : (b : Bool) → test p ≡ b → with_parents x (filter (λ q. not (test q)) pairs) list ≡ with_parents x pairs list
        → with_parents x (filter (λ q. not (test q)) pairs) (cond (p.0 == x) (with_tag list p.1) list) ≡ with_parents x pairs (cond (p.0 == x) (with_tag list p.1) list)
        → with_parents x (cond (not b) (p ∷ filter (λ q. not (test q)) pairs) (filter (λ q. not (test q)) pairs)) list ≡ with_parents x pairs (cond (p.0 == x) (with_tag list p.1) list)
    by true e rest step = rest ∙ ap (with_parents x pairs) (sym (no-more (p.0 == x) (more p.1 (done.0 e))))
    by false e rest step = step

-- ---- the search
-- The pairs that pass the test have been met: their parents are reached. To each tag that is reached a chain leads.
pub record IsBegun (pairs : List Pair) (a : ℕ) (reached : List ℕ) (test : Pair → Bool) : Type 0 where
  pub sound : (b : ℕ) → has reached b ≡ true → (n : ℕ) × (leads n pairs a b ≡ true)
  pub done : AllByRecursion (λ p. test p ≡ true → has reached p.1 ≡ true) pairs

begin : (pairs : List Pair) (a : ℕ) → IsBegun pairs a [] (λ p. false)
begin pairs a = record {
  sound = λ b h. absurd (false≢true h);
  done = none pairs;
}
  where
    none : (qs : List Pair) → AllByRecursion (λ p. false ≡ true → has [] p.1 ≡ true) qs
    none [] = tt
    none (q ∷ qs) = (λ e. e, none qs)

any-weaker : (f g : Pair → Bool) → ((p : Pair) → f p ≡ true → g p ≡ true) → (pairs : List Pair) → list_any f pairs ≡ true → list_any g pairs ≡ true
any-weaker f g h [] e = e
any-weaker f g h (p ∷ pairs) e = elim (or_cases (f p) (list_any f pairs) e) [
  | inl here ↦ or_left (g p) (list_any g pairs) (h p here)
  | inr there ↦ or_right (g p) (list_any g pairs) (any-weaker f g h pairs there)
]

-- a tag from which the search goes on: the start, or one that is reached
abbrev IsSource : List Pair → ℕ → ℕ → Type 0
IsSource pairs a x = (n : ℕ) × ((x == a || leads n pairs a x) ≡ true)

-- the pairs of one more child are met
go-on : (pairs : List Pair) (a x : ℕ) (reached : List ℕ) (test : Pair → Bool) → IsBegun pairs a reached test → IsSource pairs a x
    → IsBegun pairs a (with_parents x pairs reached) (λ p. test p || p.0 == x)
go-on pairs a x reached test h source = record {
  sound = sound;
  done = done pairs h.done (parents-there x pairs reached);
}
  where
    sound : (b : ℕ) → has (with_parents x pairs reached) b ≡ true → (n : ℕ) × (leads n pairs a b ≡ true)
    sound b has-it = elim (parents-cases x pairs reached b has-it) [
      | inl old ↦ h.sound b old
      | inr new ↦ (
        suc source.0,
        any-weaker (λ p. p.0 == x && p.1 == b) (λ p. (p.0 == a || leads source.0 pairs a p.0) && p.1 == b)
            (λ p yes-it.
            let parts = and_parts (p.0 == x) (p.1 == b) yes-it in
            and_from (p.0 == a || leads source.0 pairs a p.0) (p.1 == b)
            (ap (λ c. c == a || leads source.0 pairs a c) (eqb-true p.0 x parts.0) ∙ source.1) parts.1)
            pairs new,
      )
    ]

    done : (qs : List Pair) → AllByRecursion (λ p. test p ≡ true → has reached p.1 ≡ true) qs
        → AllByRecursion (λ p. (p.0 == x) ≡ true → has (with_parents x pairs reached) p.1 ≡ true) qs
        → AllByRecursion (λ p. (test p || p.0 == x) ≡ true → has (with_parents x pairs reached) p.1 ≡ true) qs
    done [] old new = tt
    done (q ∷ qs) old new = (
      λ yes-it. elim (or_cases (test q) (q.0 == x) yes-it) [
        | inl was ↦ parents-keep x pairs reached q.1 (old.0 was)
        | inr is ↦ new.0 is
      ],
      done qs old.1 new.1,
    )

-- the start and the first tags of the list have been met
abbrev pub met : ℕ → List ℕ → ℕ → Pair → Bool
met a reached at p = p.0 == a || has (take at reached) p.0

-- how many pairs wait
abbrev pub left : List Pair → ℕ → List ℕ → ℕ → ℕ
left pairs a reached at = length (filter (λ p. not (met a reached at p)) pairs)

pub begun-first : (pairs : List Pair) (a : ℕ) → IsBegun pairs a (with_parents a pairs []) (met a (with_parents a pairs []) 0)
begun-first pairs a =
    subst (IsBegun pairs a (with_parents a pairs [])) (fun_ext (λ p. or-false (p.0 == a)))
    (go-on pairs a a [] (λ p. false) (begin pairs a) (0, ap (λ c. c || false) (eq-eqb a a refl)))
  where
    or-false : (x : Bool) → (false || x) ≡ (x || false)
    or-false true = refl
    or-false false = refl

-- one more is met
met-next : (pairs : List Pair) (a at : ℕ) (reached : List ℕ) → at < length reached → (p : Pair)
    → (met a reached at p || p.0 == get_or reached at 0) ≡ met a (with_parents (get_or reached at 0) pairs reached) (at + 1) p
met-next pairs a at reached lt p =
    let x : ℕ = get_or reached at 0 in
    let front = parents-front x pairs reached in
    let size : at < length (reached ++ front.0) = omega (arith, lt, length-more reached front.0) in
    let first : take at (reached ++ front.0) ≡ take at reached = take-append-le at reached front.0 (omega (arith, lt)) in
    let this : get_or (reached ++ front.0) at 0 ≡ x = get_or_append_left reached front.0 0 at lt in
    regroup (p.0 == a) (has (take at reached) p.0) (p.0 == x)
    ∙ ap (λ c. p.0 == a || c)
    (sym (ap (λ (l : List ℕ). has (take (at + 1) l) p.0) front.1
    ∙ list_any_more (λ y. p.0 == y) (reached ++ front.0) at 0 size
    ∙ ap (λ (l : List ℕ). has l p.0 || p.0 == get_or (reached ++ front.0) at 0) first
    ∙ ap (λ y. has (take at reached) p.0 || p.0 == y) this))
  where
    regroup : (c d e : Bool) → ((c || d) || e) ≡ (c || (d || e))
    regroup true d e = refl
    regroup false d e = refl

    length-more : (xs ys : List ℕ) → length xs ≤ length (xs ++ ys)
    length-more [] ys = omega arith
    length-more (y ∷ xs) ys = omega (arith, length-more xs ys)

pub begun-next : (pairs : List Pair) (a at : ℕ) (reached : List ℕ) → IsBegun pairs a reached (met a reached at) → at < length reached
    → IsBegun pairs a (with_parents (get_or reached at 0) pairs reached) (met a (with_parents (get_or reached at 0) pairs reached) (at + 1))
begun-next pairs a at reached h lt =
    let x : ℕ = get_or reached at 0 in
    let new : List ℕ = with_parents x pairs reached in
    let found = h.sound x (there reached at lt) in
    subst (IsBegun pairs a new) (fun_ext (λ p. met-next pairs a at reached lt p))
    (go-on pairs a x reached (met a reached at) h (found.0, or_right (x == a) (leads found.0 pairs a x) found.1))
  where
    there : (list : List ℕ) (at : ℕ) → at < length list → has list (get_or list at 0) ≡ true
    there [] at lt = absurd (omega (arith, lt))
    there (y ∷ list) zero lt = or_left (y == y) (has list y) (eq-eqb y y refl)
    there (y ∷ list) (suc at) lt = or_right (get_or list at 0 == y) (has list (get_or list at 0)) (there list at (omega (arith, lt)))

-- for each tag that comes a pair waits no longer
fewer-next : (pairs : List Pair) (a at : ℕ) (reached : List ℕ) → IsBegun pairs a reached (met a reached at) → at < length reached
    → left pairs a (with_parents (get_or reached at 0) pairs reached) (at + 1) + length (with_parents (get_or reached at 0) pairs reached) ≤ left pairs a reached at + length reached
fewer-next pairs a at reached h lt =
    let x : ℕ = get_or reached at 0 in
    let new : List ℕ = with_parents x pairs reached in
    let waiting : List Pair = filter (λ p. not (met a reached at p)) pairs in
    let same : with_parents x waiting reached ≡ new = same-parents x (met a reached at) reached pairs reached h.done (λ c here. here) in
    let rest : filter (is_of_other x) waiting ≡ filter (λ p. not (met a new (at + 1) p)) pairs =
    both pairs ∙ filter_agree (λ p. not (met a reached at p || p.0 == x)) (λ p. not (met a new (at + 1) p)) (λ p. ap not (met-next pairs a at reached lt p)) pairs in
    omega (arith, parents-length x waiting reached, ap (λ (l : List ℕ). length l) same, ap (λ (l : List Pair). length l) rest)
  where
    both : (qs : List Pair) → filter (is_of_other (get_or reached at 0)) (filter (λ p. not (met a reached at p)) qs) ≡ filter (λ p. not (met a reached at p || p.0 == get_or reached at 0)) qs
    both [] = refl
    both (q ∷ qs) = by (met a reached at q) (q.0 == get_or reached at 0) refl (both qs)
      where
        by : (c d : Bool) → (q.0 == get_or reached at 0) ≡ d
            → filter (is_of_other (get_or reached at 0)) (filter (λ p. not (met a reached at p)) qs) ≡ filter (λ p. not (met a reached at p || p.0 == get_or reached at 0)) qs
            → filter (is_of_other (get_or reached at 0)) (cond (not c) (q ∷ filter (λ p. not (met a reached at p)) qs) (filter (λ p. not (met a reached at p)) qs))
            ≡ cond (not (c || d)) (q ∷ filter (λ p. not (met a reached at p || p.0 == get_or reached at 0)) qs) (filter (λ p. not (met a reached at p || p.0 == get_or reached at 0)) qs)
        by true d e rest = rest
        by false true e rest = rw e rest
        by false false e rest = rw e (ap (λ l. q ∷ l) rest)

-- once all that is reached has been met, nothing else is above
pub ended : (pairs : List Pair) (a at : ℕ) (reached : List ℕ) → IsBegun pairs a reached (met a reached at) → length reached ≤ at
    → (b : ℕ) → has reached b ≡ is_above pairs a b
ended pairs a at reached h le =
    closed-above pairs a (has reached)
    (All-from_recursion (λ p. (p.0 == a || has reached p.0) ≡ true → has reached p.1 ≡ true) pairs
    (subst (λ (l : List ℕ). AllByRecursion (λ p. (p.0 == a || has l p.0) ≡ true → has reached p.1 ≡ true) pairs) (whole at reached le) h.done))
    h.sound
  where
    whole : (at : ℕ) (list : List ℕ) → length list ≤ at → take at list ≡ list
    whole zero [] le = refl
    whole (suc at) [] le = refl
    whole zero (x ∷ list) le = absurd (omega (arith, le))
    whole (suc at) (x ∷ list) le = ap (λ l. x ∷ l) (whole at list (omega (arith, le)))

-- ---- the same, for lists that are known by equations
pub first-by : (pairs : List Pair) (a : ℕ) (list : List ℕ) → list ≡ with_parents a pairs [] → IsBegun pairs a list (met a list 0)
first-by pairs a list e = rw e (begun-first pairs a)

pub next-by : (pairs : List Pair) (a at : ℕ) (reached : List ℕ) (x : ℕ) (list : List ℕ) → IsBegun pairs a reached (met a reached at) → at < length reached
    → x ≡ get_or reached at 0 → list ≡ with_parents x pairs reached → IsBegun pairs a list (met a list (at + 1))
next-by pairs a at reached x list h lt is e = rw (e, is) (begun-next pairs a at reached h lt)

pub fewer-by : (pairs : List Pair) (a at : ℕ) (reached : List ℕ) (x : ℕ) (list : List ℕ) → IsBegun pairs a reached (met a reached at) → at < length reached
    → x ≡ get_or reached at 0 → list ≡ with_parents x pairs reached → left pairs a list (at + 1) + length list ≤ left pairs a reached at + length reached
fewer-by pairs a at reached x list h lt is e = rw (e, is) (fewer-next pairs a at reached h lt)

pub longer-by : (x : ℕ) (pairs : List Pair) (reached list : List ℕ) → list ≡ with_parents x pairs reached → length reached ≤ length list
longer-by x pairs reached list f =
    let front = parents-front x pairs reached in
    let e : list ≡ reached ++ front.0 = f ∙ front.1 in
    rw e (length-front reached front.0)
  where
    length-front : (xs ys : List ℕ) → length xs ≤ length (xs ++ ys)
    length-front [] ys = omega arith
    length-front (y ∷ xs) ys = omega (arith, length-front xs ys)

-- ---- the tags that were seen
pub tag-old : (list : List ℕ) (b : ℕ) → has list b ≡ true → with_tag list b ≡ list
tag-old list b h = rw h refl

pub tag-new : (list : List ℕ) (b : ℕ) → has list b ≡ false → with_tag list b ≡ list ++ b ∷ []
tag-new list b h = rw h refl

pub seen-tag : (list keys new : List ℕ) (b : ℕ) → AreSeen list keys → ((c : ℕ) → Contains new c ↔ (Contains keys c ⊎ (c ≡ b))) → AreSeen (with_tag list b) new
seen-tag list keys new b seen members c = (
  λ h. elim (tag-cases list b c h) [
    | inl old ↦ (members c).1 (inl ((seen c).0 old))
    | inr is ↦ (members c).1 (inr is)
  ],
  λ h. elim ((members c).0 h) [
    | inl old ↦ tag-keeps list b c ((seen c).1 old)
    | inr is ↦ ap (has (with_tag list b)) is ∙ tag-there list b
  ],
)

-- ---- the pairs of a child, which lie beside one another
abbrev pub no_pair : Pair
no_pair = (0, 0)

pub parents-skip : (child i : ℕ) (pairs : List Pair) (list : List ℕ) → ((k : ℕ) → k < i → (get_or pairs k no_pair).0 == child ≡ false)
    → with_parents child (drop i pairs) list ≡ with_parents child pairs list
parents-skip child zero pairs list h = refl
parents-skip child (suc i) [] list h = refl
parents-skip child (suc i) (p ∷ pairs) list h =
    let this : (p.0 == child) ≡ false = h 0 (omega arith) in
    rw this (parents-skip child i pairs list (λ k lt. h (suc k) (omega (arith, lt))))

pub parents-one : (child i : ℕ) (pairs : List Pair) (list : List ℕ) → i < length pairs → (get_or pairs i no_pair).0 ≡ child
    → with_parents child (drop i pairs) list ≡ with_parents child (drop (i + 1) pairs) (with_tag list (get_or pairs i no_pair).1)
parents-one child i pairs list lt is = go i pairs lt is ∙ ap (λ (n : ℕ). with_parents child (drop n pairs) (with_tag list (get_or pairs i no_pair).1)) (sym (add-one i))
  where
    go : (i : ℕ) (pairs : List Pair) → i < length pairs → (get_or pairs i no_pair).0 ≡ child
        → with_parents child (drop i pairs) list ≡ with_parents child (drop (suc i) pairs) (with_tag list (get_or pairs i no_pair).1)
    go i [] lt is = absurd (omega (arith, lt))
    go zero (p ∷ pairs) lt is = ap (λ (b : Bool). with_parents child pairs (cond b (with_tag list p.1) list)) (eq-eqb p.0 child is)
    go (suc i) (p ∷ pairs) lt is = go i pairs (omega (arith, lt)) is

pub parents-none : (child i : ℕ) (pairs : List Pair) (list : List ℕ) → ((k : ℕ) → i ≤ k → k < length pairs → (get_or pairs k no_pair).0 == child ≡ false)
    → with_parents child (drop i pairs) list ≡ list
parents-none child zero [] list h = refl
parents-none child (suc i) [] list h = refl
parents-none child zero (p ∷ pairs) list h =
    ap (λ (b : Bool). with_parents child pairs (cond b (with_tag list p.1) list)) (h 0 (omega arith) (omega arith))
    ∙ (parents-none child zero pairs list (λ k le lt. h (suc k) (omega arith) (omega (arith, lt))))
parents-none child (suc i) (p ∷ pairs) list h = parents-none child i pairs list (λ k le lt. h (suc k) (omega (arith, le)) (omega (arith, lt)))

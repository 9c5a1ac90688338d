-- What a list of tags does to the supports of a file, and that one place that changes moves the cache.
use Rattle.std.proofs.Common.{◌≡◌, ◌∙◌, ℕ, ◌+◌, ◌-◌, ◌<◌, ◌≤◌, ◌==◌, ◌&&◌, ◌||◌, Bool, true, false, cond, List, [], ◌∷◌, refl, sym, ap, subst, arith, All}
use Rattle.std.specs.List.{AllByRecursion}
use Rattle.std.proofs.lemmas.Bool.{false≢true, eqb-true, and_parts}
use Rattle.std.proofs.lemmas.List.Elements.{recursion_from_All}
use Rattle.display_cache.specs.Shown.{World, has}
use Rattle.display_cache.specs.Sums.{sum_below}
use Rattle.display_cache.specs.Cache.{nothing, AreCounted, Cache, Keeps, Support, given, given_to, minus, moved, plus, taken_from, unit_of, with_support}
use Rattle.display_cache.specs.Changing.{AreDistinct, DifferAt}
use Rattle.display_cache.specs.SumLaws.{sum-has, sum-one, sum-same}
use Rattle.display_cache.specs.CountLaws.{setting-keeps}

-- what one unit does to a support where a test holds
abbrev taken_if : Bool → Support → Support → Support
taken_if b unit u = cond b (minus u unit) u

abbrev given_if : Bool → Support → Support → Support
given_if b unit u = cond b (plus u unit) u

module _ (live : ℕ → Bool) (s f : ℕ) (unit : Support) where
  -- of a tag that comes first in a list, and of one that comes later
  taken-step : (change : Support → Support) (i j k : Bool) (u v : Support) → (k ≡ true → j ≡ false) → (k ≡ true → i ≡ true → v ≡ u)
      → cond (i && j) (change (cond (i && k) (change v) u)) (cond (i && k) (change v) u) ≡ cond (i && (k || j)) (change u) u
  taken-step change true true true u v apart same = absurd (false≢true (sym (apart refl)))
  taken-step change true false true u v apart same = ap change (same refl refl)
  taken-step change true true false u v apart same = refl
  taken-step change true false false u v apart same = refl
  taken-step change false j k u v apart same = refl

  -- a fold that changes the support of each tag of a list
  abbrev changed : (Support → Support) → List ℕ → Cache → Cache
  changed change [] c = c
  changed change (x ∷ list) c = changed change list (with_support live s f x (change (c.supports s f x)) c)

  here-same : (a b y x : ℕ) (c : Cache) → (y == x) ≡ true → (a == s && b == f) ≡ true → c.supports s f x ≡ c.supports a b y
  here-same a b y x c e h =
      let parts = and_parts (a == s) (b == f) h in
      let aa : s ≡ a = sym (eqb-true a s parts.0) in
      let bb : f ≡ b = sym (eqb-true b f parts.1) in
      let yy : x ≡ y = sym (eqb-true y x e) in
      ap (λ k. c.supports k f x) aa ∙ ap (λ k. c.supports a k x) bb ∙ ap (c.supports a b) yy

  pub changed-at : (change : Support → Support) (list : List ℕ) (c : Cache) → AreDistinct list → (a b y : ℕ)
      → (changed change list c).supports a b y ≡ cond ((a == s && b == f) && has list y) (change (c.supports a b y)) (c.supports a b y)
  changed-at change [] c d a b y = none (a == s && b == f)
    where
      none : (i : Bool) → c.supports a b y ≡ cond (i && false) (change (c.supports a b y)) (c.supports a b y)
      none true = refl
      none false = refl
  changed-at change (x ∷ list) c d a b y =
      changed-at change list (with_support live s f x (change (c.supports s f x)) c) d.1 a b y
      ∙ taken-step change (a == s && b == f) (has list y) (y == x) (c.supports a b y) (c.supports s f x)
      (λ e. ap (has list) (eqb-true y x e) ∙ d.0) (λ e h. here-same a b y x c e h)

  pub changed-counted : (services tags files : ℕ) (change : Support → Support) (list : List ℕ) (c : Cache) → s < services → f < files
      → AllByRecursion (λ x. x < tags) list → AreCounted services tags files live c → AreCounted services tags files live (changed change list c)
  changed-counted services tags files change [] c hs hf all h = h
  changed-counted services tags files change (x ∷ list) c hs hf all h =
      changed-counted services tags files change list (with_support live s f x (change (c.supports s f x)) c) hs hf all.1
      (setting-keeps services tags files live s f x (change (c.supports s f x)) c hs hf all.0 h)

  pub taken-is : (list : List ℕ) (c : Cache) → taken_from live s f unit list c ≡ changed (λ u. minus u unit) list c
  taken-is [] c = refl
  taken-is (x ∷ list) c = taken-is list (with_support live s f x (minus (c.supports s f x) unit) c)

  pub given-is : (list : List ℕ) (c : Cache) → given_to live s f unit list c ≡ changed (λ u. plus u unit) list c
  given-is [] c = refl
  given-is (x ∷ list) c = given-is list (with_support live s f x (plus (c.supports s f x) unit) c)

-- a part of a support once one place is otherwise; q and r are what the place gave and gives
part-moved : (i j k : Bool) (c q r unit1 unit2 new : ℕ) → cond (i && j) unit1 0 ≡ cond i q 0 → cond (i && k) unit2 0 ≡ cond i r 0
    → new + cond i q 0 ≡ c + cond i r 0 → q ≤ c
    → cond (i && k) (cond (i && j) (c - unit1) c + unit2) (cond (i && j) (c - unit1) c) ≡ new
part-moved false j k c q r u v new a b e le = omega (arith, e)
part-moved true true true c q r u v new a b e le = omega (arith, a, b, e, le)
part-moved true true false c q r u v new a b e le = omega (arith, a, b, e, le)
part-moved true false true c q r u v new a b e le = omega (arith, a, b, e, le)
part-moved true false false c q r u v new a b e le = omega (arith, a, b, e, le)

module _ (part : Support → ℕ) (W V : World) (s t f : ℕ) (differ : DifferAt s t f W V) (few : t < W.tags) where
  abbrev total : World → ℕ → ℕ → ℕ → ℕ
  total X a b y = sum_below X.tags (λ u. part (given X a b y u))

  -- the sum of what the tags give
  total-moved : (a b y : ℕ) (i : Bool) → (a == s && b == f) ≡ i
      → total V a b y + cond i (part (given W a b y t)) 0 ≡ total W a b y + cond i (part (given V a b y t)) 0
  total-moved a b y true e =
      ap (λ n. sum_below n (λ u. part (given V a b y u)) + part (given W a b y t)) differ.tags
      ∙ sum-one W.tags (λ u. part (given W a b y u)) (λ u. part (given V a b y u)) t few (λ u out. ap part (differ.others a b y u (rw (e, out) refl)))
  total-moved a b y false e =
      let same = sum-same W.tags (λ u. part (given V a b y u)) (λ u. part (given W a b y u)) (λ u. ap part (differ.others a b y u (rw e refl))) in
      let n = ap (λ n. sum_below n (λ u. part (given V a b y u))) differ.tags in
      omega (arith, same, n)

part-cond : (part : Support → ℕ) (b : Bool) (u v : Support) → part (cond b u v) ≡ cond b (part u) (part v)
part-cond part true u v = refl
part-cond part false u v = refl

module _ (part : Support → ℕ) (part-none : part nothing ≡ 0) (part-plus : (u v : Support) → part (plus u v) ≡ part u + part v)
    (part-minus : (u v : Support) → part (minus u v) ≡ part u - part v) where
  given-here : (X : World) (s t f a b y : ℕ) (i : Bool) → (a == s && b == f) ≡ i
      → cond (i && has (X.force s t f) y) (part (unit_of (X.state s t f))) 0 ≡ cond i (part (given X a b y t)) 0
  given-here X s t f a b y false e = refl
  given-here X s t f a b y true e =
      let parts = and_parts (a == s) (b == f) e in
      let ss : s ≡ a = sym (eqb-true a s parts.0) in
      let ff : f ≡ b = sym (eqb-true b f parts.1) in
      sym (part-cond part (has (X.force s t f) y) (unit_of (X.state s t f)) nothing ∙ ap (cond (has (X.force s t f) y) (part (unit_of (X.state s t f)))) part-none)
      ∙ ap (λ k. part (given X k f y t)) ss ∙ ap (λ k. part (given X a k y t)) ff

  part-given : (b : Bool) (u v : Support) (c : ℕ) → part u ≡ c → part (cond b (plus u v) u) ≡ cond b (c + part v) c
  part-given true u v c e = part-plus u v ∙ ap (λ n. n + part v) e
  part-given false u v c e = e

  part-taken : (b : Bool) (u v : Support) (c : ℕ) → part u ≡ c → part (cond b (minus u v) u) ≡ cond b (c - part v) c
  part-taken true u v c e = part-minus u v ∙ ap (λ n. n - part v) e
  part-taken false u v c e = e

  place-part : (W V : World) (s t f : ℕ) (c : Cache) (differ : DifferAt s t f W V) → t < W.tags
      → AreDistinct (W.force s t f) → AreDistinct (V.force s t f)
      → (a b y : ℕ) → part (c.supports a b y) ≡ sum_below W.tags (λ u. part (given W a b y u))
      → part ((moved W V s t f c).supports a b y) ≡ sum_below V.tags (λ u. part (given V a b y u))
  place-part W V s t f c differ few d1 d2 a b y is =
      let u1 : Support = unit_of (W.state s t f) in
      let u2 : Support = unit_of (V.state s t f) in
      let l1 : List ℕ = W.force s t f in
      let l2 : List ℕ = V.force s t f in
      let i : Bool = a == s && b == f in
      let less : Cache = taken_from V.live s f u1 l1 c in
      let at1 : less.supports a b y ≡ cond (i && has l1 y) (minus (c.supports a b y) u1) (c.supports a b y) =
      ap (λ (k : Cache). k.supports a b y) (taken-is V.live s f u1 l1 c) ∙ changed-at V.live s f u1 (λ u. minus u u1) l1 c d1 a b y in
      let at2 : (moved W V s t f c).supports a b y ≡ cond (i && has l2 y) (plus (less.supports a b y) u2) (less.supports a b y) =
      ap (λ (k : Cache). k.supports a b y) (given-is V.live s f u2 l2 less) ∙ changed-at V.live s f u2 (λ u. plus u u2) l2 less d2 a b y in
      let old : part (less.supports a b y) ≡ cond (i && has l1 y) (part (c.supports a b y) - part u1) (part (c.supports a b y)) =
      ap part at1 ∙ part-taken (i && has l1 y) (c.supports a b y) u1 (part (c.supports a b y)) refl in
      let holds : part (given W a b y t) ≤ part (c.supports a b y) =
      subst (λ n. part (given W a b y t) ≤ n) (sym is) (sum-has W.tags (λ u. part (given W a b y u)) t few) in
      ap part at2
      ∙ part-given (i && has l2 y) (less.supports a b y) u2 (cond (i && has l1 y) (part (c.supports a b y) - part u1) (part (c.supports a b y))) old
      ∙ part-moved i (has l1 y) (has l2 y) (part (c.supports a b y)) (part (given W a b y t)) (part (given V a b y t)) (part u1) (part u2)
      (sum_below V.tags (λ u. part (given V a b y u)))
      (given-here W s t f a b y i refl) (given-here V s t f a b y i refl)
      (total-moved part W V s t f differ few a b y i refl ∙ ap (λ n. n + cond i (part (given V a b y t)) 0) (sym is)) holds

pub one-place : (services : ℕ) (W V : World) (s t f : ℕ) (c : Cache) → DifferAt s t f W V
    → s < services → t < W.tags → f < W.files
    → AreDistinct (W.force s t f) → AreDistinct (V.force s t f)
    → All (λ x. x < W.tags) (W.force s t f) → All (λ x. x < W.tags) (V.force s t f)
    → Keeps services W c → Keeps services V (moved W V s t f c)
one-place services W V s t f c differ hs ht hf d1 d2 a1 a2 h =
    let u1 : Support = unit_of (W.state s t f) in
    let u2 : Support = unit_of (V.state s t f) in
    let less : Cache = taken_from V.live s f u1 (W.force s t f) c in
    let start : AreCounted services W.tags W.files V.live c = subst (λ l. AreCounted services W.tags W.files l c) (sym differ.live) h.counted in
    let first : AreCounted services W.tags W.files V.live less =
    subst (AreCounted services W.tags W.files V.live) (sym (taken-is V.live s f u1 (W.force s t f) c))
    (changed-counted V.live s f u1 services W.tags W.files (λ u. minus u u1) (W.force s t f) c hs hf (recursion_from_All (λ x. x < W.tags) (W.force s t f) a1) start) in
    let second : AreCounted services W.tags W.files V.live (moved W V s t f c) =
    subst (AreCounted services W.tags W.files V.live) (sym (given-is V.live s f u2 (V.force s t f) less))
    (changed-counted V.live s f u2 services W.tags W.files (λ u. plus u u2) (V.force s t f) less hs hf (recursion_from_All (λ x. x < W.tags) (V.force s t f) a2) first) in
    record {
      current = λ a b y. place-part (λ u. u.current) refl (λ u v. refl) (λ u v. refl) W V s t f c differ ht d1 d2 a b y (h.current a b y);
      pending = λ a b y. place-part (λ u. u.pending) refl (λ u v. refl) (λ u v. refl) W V s t f c differ ht d1 d2 a b y (h.pending a b y);
      counted = subst (λ m. AreCounted services m V.files V.live (moved W V s t f c)) (sym differ.tags)
          (subst (λ m. AreCounted services W.tags m V.live (moved W V s t f c)) (sym differ.files) second);
    }

-- What a switch changes, step by step.
use Rattle.std.proofs.Common.{◌≡◌, ◌≢◌, ◌∙◌, ℕ, zero, suc, ◌+◌, ◌-◌, ◌<◌, ◌≤◌, ◌==◌, ◌&&◌, Bool, true, false, cond, ltb, List, [], ◌∷◌, length, get_or, Option, Some, None, refl, sym, ap, subst, inl, inr, arith, All}
use Rattle.std.specs.Option.{is_some}
use Rattle.std.proofs.lemmas.List.{get_or-set_other, get_or-set_same}
use Rattle.std.proofs.lemmas.Bool.{false≢true, cases_lt, cond_both, eqb-true, eq-eqb, and_parts, lt-ltb, le-ltb}
use Rattle.tag_types.specs.declared.limits.TheConstants.{MAX_SERVICES}
use Rattle.tag_types.specs.declared.map_state.MapState.{MapState}
use Rattle.tag_store.specs.Mapped.{Ascend, state_of, with_state}
use Rattle.tag_store.specs.MappedLaws.{state-others}
use Rattle.display_cache.specs.Shown.{World, has}
use Rattle.display_cache.specs.Sums.{first_in, sum_below}
use Rattle.display_cache.specs.Recorded.{Switch, TagRecords, applied, in_force, is_of, list_place, or_alone, world_of}
use Rattle.display_cache.specs.Switching.{AreListed, AreOfFiles, after_rows, batch_of, next_row, pass_on, passed, rows_moved, settled, switching, with_list}
use Rattle.display_cache.specs.Cache.{nothing, AreCounted, Cache, Keeps, given, moved, unit_of}
use Rattle.display_cache.specs.Changing.{Alike, AreDistinct, DifferAt}
use Rattle.display_cache.specs.SumLaws.{sum-same}
use Rattle.display_cache.specs.PlaceLaws.{one-place}

-- the first number that passes
pub record IsFirst (test : ℕ → Bool) (k n f : ℕ) : Type 0 where
  pub from : k ≤ f
  pub below : f < k + n
  pub passes : test f ≡ true
  pub before : (g : ℕ) → k ≤ g → g < f → test g ≡ false

first-by : (b : Bool) (test : ℕ → Bool) (k n f : ℕ) → test k ≡ b → (first_in test (suc k) n ≡ Some f → IsFirst test (suc k) n f)
    → cond b (Some k) (first_in test (suc k) n) ≡ Some f → IsFirst test k (suc n) f
first-by true test k n f e rest is =
    let same : k ≡ f = cc in
    record {
      from = omega (arith, same);
      below = omega (arith, same);
      passes = ap test (sym same) ∙ e;
      before = λ g le lt. absurd (omega (arith, same, le, lt));
    }
first-by false test k n f e rest is =
    let later = rest is in
    record {
      from = omega (arith, later.from);
      below = omega (arith, later.below);
      passes = later.passes;
      before = λ g le lt. elim (cases_lt k g) [
        | inl more ↦ later.before g (omega (arith, more)) lt
        | inr same ↦ let here : g ≡ k = omega (arith, same, le) in ap test here ∙ e
      ];
    }

pub first-some : (test : ℕ → Bool) (k n f : ℕ) → first_in test k n ≡ Some f → IsFirst test k n f
first-some test k zero f e = cc
first-some test k (suc n) f e = first-by (test k) test k n f refl (first-some test (suc k) n f) e

none-by : (b : Bool) (test : ℕ → Bool) (k n : ℕ) → test k ≡ b → (first_in test (suc k) n ≡ None → (g : ℕ) → suc k ≤ g → g < suc k + n → test g ≡ false)
    → cond b (Some k) (first_in test (suc k) n) ≡ None → (g : ℕ) → k ≤ g → g < k + suc n → test g ≡ false
none-by true test k n e rest is g le lt = cc
none-by false test k n e rest is g le lt = elim (cases_lt k g) [
  | inl more ↦ rest is g (omega (arith, more)) (omega (arith, lt))
  | inr same ↦ let here : g ≡ k = omega (arith, same, le) in ap test here ∙ e
]

pub first-none : (test : ℕ → Bool) (k n : ℕ) → first_in test k n ≡ None → (g : ℕ) → k ≤ g → g < k + n → test g ≡ false
first-none test k zero e g le lt = absurd (omega (arith, le, lt))
first-none test k (suc n) e g le lt = none-by (test k) test k n refl (first-none test (suc k) n) e g le lt

-- a tag that isn't mapped gives nothing
nothing-given : (h k : Bool) (state : Option MapState) → is_some state ≡ false → cond h (unit_of state) nothing ≡ cond k (unit_of state) nothing
nothing-given true true state e = refl
nothing-given false false state e = refl
nothing-given true false None e = refl
nothing-given false true None e = refl
nothing-given true false (Some x) e = absurd (false≢true (sym e))
nothing-given false true (Some x) e = absurd (false≢true (sym e))

-- lists in force that are the same give the same
same-given : (l m : List ℕ) (y : ℕ) (state : Option MapState) → l ≡ m → cond (has l y) (unit_of state) nothing ≡ cond (has m y) (unit_of state) nothing
same-given l m y state e = ap (λ k. cond (has k y) (unit_of state) nothing) e

and-false : (x : Bool) → (x && false) ≡ false
and-false true = refl
and-false false = refl

pub row-place : (R : TagRecords) (w : Switch) (f : ℕ) → next_row R w ≡ Some f
    → (f < R.files) × DifferAt w.service w.tag f (world_of (switching R w)) (world_of (switching R (passed w f)))
row-place R w f e =
    let first : IsFirst (λ g. is_some (state_of R.mappings w.service w.tag g)) w.next (R.files - w.next) f =
    first-some (λ g. is_some (state_of R.mappings w.service w.tag g)) w.next (R.files - w.next) f e in (
      omega (arith, first.from, first.below),
      record {
        tags = refl;
        files = refl;
        live = refl;
        others = λ a b y u out. by first a b y u out (is_of w a u) refl;
      },
    )
  where
    by : IsFirst (λ g. is_some (state_of R.mappings w.service w.tag g)) w.next (R.files - w.next) f
        → (a b y u : ℕ) → ((a == w.service && b == f) && u == w.tag) ≡ false → (i : Bool) → is_of w a u ≡ i
        → given (world_of (switching R (passed w f))) a b y u ≡ given (world_of (switching R w)) a b y u
    by first a b y u out false e = rw e refl
    by first a b y u out true e =
        let parts = and_parts (w.service == a) (w.tag == u) e in
        let aa : w.service ≡ a = eqb-true w.service a parts.0 in
        let uu : w.tag ≡ u = eqb-true w.tag u parts.1 in
        elim (cases_lt b w.next) [
          | inl low ↦ same-given (in_force R.lists (Some (passed w f)) a u b) (in_force R.lists (Some w) a u b) y (state_of R.mappings a u b)
              (rw (e, lt-ltb b w.next low, lt-ltb b (suc f) (omega (arith, low, first.from))) refl)
          | inr high ↦ elim (cases_lt f b) [
            | inl above ↦ same-given (in_force R.lists (Some (passed w f)) a u b) (in_force R.lists (Some w) a u b) y (state_of R.mappings a u b)
                (rw (e, le-ltb b w.next high, le-ltb b (suc f) (omega (arith, above))) refl)
            | inr upto ↦ elim (cases_lt b f) [
              | inl below ↦ nothing-given (has (in_force R.lists (Some (passed w f)) a u b) y) (has (in_force R.lists (Some w) a u b) y) (state_of R.mappings a u b)
                  (ap (λ k. is_some (state_of R.mappings k u b)) (sym aa) ∙ ap (λ k. is_some (state_of R.mappings w.service k b)) (sym uu) ∙ first.before b high below)
              | inr same ↦
                  let bb : b ≡ f = omega (arith, upto, same) in
                  let there : ((a == w.service && b == f) && u == w.tag) ≡ true =
                  rw (eq-eqb a w.service (sym aa), eq-eqb b f bb, eq-eqb u w.tag (sym uu)) refl in
                  absurd (false≢true (sym out ∙ there))
            ]
          ]
        ]

pub begins : (R : TagRecords) (w : Switch) → R.switch ≡ None → w.next ≡ 0 → Alike (world_of R) (world_of (switching R w))
begins R w e z = record {
  tags = refl;
  files = refl;
  live = refl;
  given = λ a b y u. same-given (in_force R.lists (Some w) a u b) (in_force R.lists R.switch a u b) y (state_of R.mappings a u b)
      (rw (e, z, le-ltb b 0 (omega arith), and-false (is_of w a u)) refl);
}

-- the list that is applied at the end, and the others, which stay
or_alone-some : (t : ℕ) (list : List ℕ) → 0 < length list → or_alone t list ≡ list
or_alone-some t [] some = absurd (omega (arith, some))
or_alone-some t (x ∷ list) some = refl

pub applied-this : (w : Switch) (lists : List (List ℕ)) → 0 < length w.list → w.service < MAX_SERVICES → list_place w.service w.tag < length lists
    → applied (with_list w lists) w.service w.tag ≡ w.list
applied-this w lists some few place =
    let found : get_or (with_list w lists) (list_place w.service w.tag) [] ≡ w.list = get_or-set_same lists (list_place w.service w.tag) w.list [] place in
    rw (lt-ltb w.service MAX_SERVICES few) (ap (or_alone w.tag) found ∙ or_alone-some w.tag w.list some)

pub applied-others : (w : Switch) (lists : List (List ℕ)) (s t : ℕ) → w.service < MAX_SERVICES → is_of w s t ≡ false
    → applied (with_list w lists) s t ≡ applied lists s t
applied-others w lists s t few other = elim (cases_lt s MAX_SERVICES) [
  | inl low ↦
      let apart : list_place s t ≢ list_place w.service w.tag = λ same.
      let first : w.service ≡ s = omega (arith, same, low, few) in
      let second : w.tag ≡ t = omega (arith, same, low, few) in
      let whole : is_of w s t ≡ true = rw (eq-eqb w.service s first, eq-eqb w.tag t second) refl in
      false≢true (sym other ∙ whole) in
      rw (lt-ltb s MAX_SERVICES low) (ap (or_alone t) (get_or-set_other lists (list_place w.service w.tag) (list_place s t) w.list [] apart))
  | inr high ↦ rw (le-ltb s MAX_SERVICES high) refl
]

pub ends : (R : TagRecords) (w : Switch) → AreOfFiles R → AreListed R w → next_row R w ≡ None
    → Alike (world_of (switching R w)) (world_of (record R { lists = with_list w R.lists; switch = None }))
ends R w there listed e = record {
  tags = refl;
  files = refl;
  live = refl;
  given = λ a b y u. by a b y u (is_of w a u) refl;
}
  where
    unmapped : (b : ℕ) → w.next ≤ b → is_some (state_of R.mappings w.service w.tag b) ≡ false
    unmapped b le = elim (cases_lt b R.files) [
      | inl in-it ↦ first-none (λ g. is_some (state_of R.mappings w.service w.tag g)) w.next (R.files - w.next) e b le (omega (arith, in-it, le))
      | inr beyond ↦ ap is_some (there w.service w.tag b beyond)
    ]

    by : (a b y u : ℕ) (i : Bool) → is_of w a u ≡ i
        → given (world_of (record R { lists = with_list w R.lists; switch = None })) a b y u ≡ given (world_of (switching R w)) a b y u
    by a b y u false o = same-given (applied (with_list w R.lists) a u) (in_force R.lists (Some w) a u b) y (state_of R.mappings a u b)
        (applied-others w R.lists a u listed.service o ∙ sym (rw o refl))
    by a b y u true o =
        let parts = and_parts (w.service == a) (w.tag == u) o in
        let aa : w.service ≡ a = eqb-true w.service a parts.0 in
        let uu : w.tag ≡ u = eqb-true w.tag u parts.1 in
        let this : applied (with_list w R.lists) a u ≡ w.list =
        ap (λ k. applied (with_list w R.lists) k u) (sym aa) ∙ ap (applied (with_list w R.lists) w.service) (sym uu)
        ∙ applied-this w R.lists listed.some listed.service listed.place in
        elim (cases_lt b w.next) [
          | inl low ↦ same-given (applied (with_list w R.lists) a u) (in_force R.lists (Some w) a u b) y (state_of R.mappings a u b)
              (this ∙ sym (rw (o, lt-ltb b w.next low) refl))
          | inr high ↦ nothing-given (has (applied (with_list w R.lists) a u) y) (has (in_force R.lists (Some w) a u b) y) (state_of R.mappings a u b)
              (ap (λ k. is_some (state_of R.mappings k u b)) (sym aa) ∙ ap (λ k. is_some (state_of R.mappings w.service k b)) (sym uu) ∙ unmapped b high)
        ]

pub alike-keep : (services : ℕ) (W V : World) (c : Cache) → Alike W V → Keeps services W c → Keeps services V c
alike-keep services W V c a h = record {
  current = λ s f x. h.current s f x ∙ sym (ap (λ n. sum_below n (λ t. (given V s f x t).current)) a.tags
      ∙ sum-same W.tags (λ t. (given V s f x t).current) (λ t. (given W s f x t).current) (λ t. ap (λ u. u.current) (a.given s f x t)));
  pending = λ s f x. h.pending s f x ∙ sym (ap (λ n. sum_below n (λ t. (given V s f x t).pending)) a.tags
      ∙ sum-same W.tags (λ t. (given V s f x t).pending) (λ t. (given W s f x t).pending) (λ t. ap (λ u. u.pending) (a.given s f x t)));
  counted = subst (λ m. AreCounted services m V.files V.live c) (sym a.tags)
      (subst (λ m. AreCounted services W.tags m V.live c) (sym a.files)
      (subst (λ l. AreCounted services W.tags W.files l c) (sym a.live) h.counted));
}

-- a mapping that is set, or taken out, changes one place
pub mapping-place : (R : TagRecords) (s t f : ℕ) (state : Option MapState) → Ascend R.mappings
    → DifferAt s t f (world_of R) (world_of (record R { mappings = with_state R.mappings s t f state }))
mapping-place R s t f state sorted = record {
  tags = refl;
  files = refl;
  live = refl;
  others = λ a b y u out. ap (λ st. cond (has (in_force R.lists R.switch a u b) y) (unit_of st) nothing)
      (state-others R.mappings s t f state (a, u, b) sorted (λ same.
      let aa = eq-eqb a s (ap (λ (k : ℕ × ℕ × ℕ). k.0) same) in
      let uu = eq-eqb u t (ap (λ (k : ℕ × ℕ × ℕ). k.1) same) in
      let bb = eq-eqb b f (ap (λ (k : ℕ × ℕ × ℕ). k.2) same) in
      let whole : ((a == s && b == f) && u == t) ≡ true = rw (aa, bb, uu) refl in
      false≢true (sym out ∙ whole)));
}

-- the lists stay what they are while rows are passed
listed-on : (R : TagRecords) (w : Switch) (f : ℕ) → AreListed R w → AreListed R (passed w f)
listed-on R w f h = record { old = h.old; new = h.new; old_there = h.old_there; new_there = h.new_there; some = h.some; service = h.service; place = h.place }

listed-after : (n : ℕ) (R : TagRecords) (w : Switch) → AreListed R w → AreListed R (after_rows n R w)
listed-after zero R w h = h
listed-after (suc n) R w h = by (next_row R w) (λ v. listed-after n R v)
  where
    by : (o : Option ℕ) → ((v : Switch) → AreListed R v → AreListed R (after_rows n R v)) → AreListed R (pass_on o w (after_rows n R))
    by None rest = h
    by (Some f) rest = rest (passed w f) (listed-on R w f h)

one-row : (services : ℕ) (R : TagRecords) (w : Switch) (f : ℕ) (c : Cache) → AreListed R w → w.service < services → w.tag < R.tags → next_row R w ≡ Some f
    → Keeps services (world_of (switching R w)) c
    → Keeps services (world_of (switching R (passed w f))) (moved (world_of (switching R w)) (world_of (switching R (passed w f))) w.service w.tag f c)
one-row services R w f c listed hs ht e h =
    let place = row-place R w f e in
    let W : World = world_of (switching R w) in
    let V : World = world_of (switching R (passed w f)) in
    let s : ℕ = w.service in
    let t : ℕ = w.tag in
    one-place services W V s t f c place.1 hs ht place.0
    (cond_both (is_of w s t && ltb f w.next) w.list (applied R.lists s t) AreDistinct (λ _. listed.new) (λ _. listed.old))
    (cond_both (is_of w s t && ltb f (suc f)) w.list (applied R.lists s t) AreDistinct (λ _. listed.new) (λ _. listed.old))
    (cond_both (is_of w s t && ltb f w.next) w.list (applied R.lists s t) (λ l. All (λ x. x < R.tags) l) (λ _. listed.new_there) (λ _. listed.old_there))
    (cond_both (is_of w s t && ltb f (suc f)) w.list (applied R.lists s t) (λ l. All (λ x. x < R.tags) l) (λ _. listed.new_there) (λ _. listed.old_there))
    h

rows-keep : (services n : ℕ) (R : TagRecords) (w : Switch) (c : Cache) → AreListed R w → w.service < services → w.tag < R.tags
    → Keeps services (world_of (switching R w)) c → Keeps services (world_of (switching R (after_rows n R w))) (rows_moved n R w c)
rows-keep services zero R w c listed hs ht h = h
rows-keep services (suc n) R w c listed hs ht h = by (next_row R w) refl (λ v k. rows-keep services n R v k)
  where
    by : (o : Option ℕ) → next_row R w ≡ o
        → ((v : Switch) (k : Cache) → AreListed R v → v.service < services → v.tag < R.tags → Keeps services (world_of (switching R v)) k
        → Keeps services (world_of (switching R (after_rows n R v))) (rows_moved n R v k))
        → Keeps services (world_of (switching R (after_rows (suc n) R w))) (rows_moved (suc n) R w c)
    by None e rest = rw e h
    by (Some f) e rest = rw e (rest (passed w f) (moved (world_of (switching R w)) (world_of (switching R (passed w f))) w.service w.tag f c)
        (listed-on R w f listed) hs ht (one-row services R w f c listed hs ht e h))

pub batches-keep : (services n : ℕ) (R : TagRecords) (w : Switch) (c : Cache) → AreOfFiles R → AreListed R w
    → w.service < services → w.tag < R.tags
    → Keeps services (world_of (switching R w)) c
    → Keeps services (world_of (batch_of n (Some w) R)) (rows_moved n R w c)
batches-keep services n R w c there listed hs ht h = by (next_row R (after_rows n R w)) refl
  where
    v : Switch
    v = after_rows n R w

    kept : Keeps services (world_of (switching R (after_rows n R w))) (rows_moved n R w c)
    kept = rows-keep services n R w c listed hs ht h

    listed_after : AreListed R (after_rows n R w)
    listed_after = listed-after n R w listed

    by : (o : Option ℕ) → next_row R (after_rows n R w) ≡ o → Keeps services (world_of (settled o (after_rows n R w) R)) (rows_moved n R w c)
    by (Some f) e = kept
    by None e = alike-keep services (world_of (switching R (after_rows n R w))) (world_of (settled None (after_rows n R w) R)) (rows_moved n R w c)
        (ends R (after_rows n R w) there listed_after e) kept

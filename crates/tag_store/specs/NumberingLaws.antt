-- Laws of the numbers of tags.
use Rattle.std.proofs.Common.{inl, inr, Option, ◌≡◌, ◌≢◌, ◌↔◌, ◌<◌, ◌≤◌, ◌+◌, ◌||◌, ℕ, suc, Bool, true, false, not, cond, nat_lt, eqb, get_or, slice_get, if◌then◌else◌, List, [], ◌∷◌, ◌++◌, length, length-append, Some, None, is_some, arith, refl, sym, ap, ◌∙◌}
use Rattle.std.specs.Prelude.{bytes_eq, Contains}
use Rattle.std.specs.List.{list_any, position_or_len}
use Rattle.std.specs.Cmp.Lexicographic.{nat_list_eq_equiv}
use Rattle.std.proofs.lemmas.Bool.{both_ways, eq-eqb, lt-ltb, ltb-true, ne_eqb}
use Rattle.std.proofs.lemmas.Bool.Decides.{nat_tests}
use Rattle.std.proofs.lemmas.List.Folds.{list_any-append, list_any_at, position_or_len_push}
use Rattle.std.proofs.lemmas.List.Quantifiers.{all_pairs_push, position-Some}
use Rattle.std.proofs.lemmas.Map.Views.{Contains-from_any, list_any-from_Contains}
use Rattle.std.proofs.lemmas.Option.{slice_get-get_or}
use Rattle.std.proofs.lemmas.Slice.Eq.{bytes_eq-Decides}
use Rattle.tag_types.specs.declared.limits.TheConstants.{MAX_TAGS}
use Rattle.tag_store.specs.Numbering.{AreDistinctTexts, AreNumbered, HasPlaceFor, is_new_behind, is_tag, number_behind, number_of, number_or_next, with_tag}

same_text : (x y : List ℕ) → bytes_eq x y ≡ true → x ≡ y
same_text x y e = (bytes_eq-Decides x y).0 e

itself : (x : List ℕ) → bytes_eq x x ≡ true
itself x = nat_list_eq_equiv.refl x

-- a tag has the text exactly where it is among the texts
pub tagged : (text : List ℕ) (texts : List (List ℕ)) → (is_tag text texts ≡ true) ↔ Contains texts text
tagged text texts = (Contains-from_any same_text text texts, list_any-from_Contains nat_list_eq_equiv text texts)

step : (test rest : Bool) (n m : ℕ) → rest ≡ nat_lt n m → test || rest ≡ nat_lt (cond (not test) (1 + n) 0) (suc m)
step true rest n m e = grind (arith, nat_tests)
step false rest n m e = grind (arith, nat_tests)

-- and where its place is before the end
any_by_place : {X : Type 0} (p : X → Bool) (xs : List X) → list_any p xs ≡ nat_lt (position_or_len p xs) (length xs)
any_by_place p [] = refl
any_by_place p (x ∷ xs) = step (p x) (list_any p xs) (position_or_len p xs) (length xs) (any_by_place p xs)

some_by : (test : Bool) (n : ℕ) → is_some (cond test (Some n) None) ≡ test
some_by true n = refl
some_by false n = refl

pub is_numbered : (text : List ℕ) (texts : List (List ℕ)) → is_some (number_of text texts) ≡ is_tag text texts
is_numbered text texts = some_by _ _ ∙ sym (any_by_place (bytes_eq text) texts)

-- so a look for the number tells whether a tag has the text
pub tag_by : (text : List ℕ) (texts : List (List ℕ)) (found : Option ℕ) → found ≡ number_of text texts → is_tag text texts ≡ is_some found
tag_by text texts found is = sym (is_numbered text texts) ∙ ap (λ (number : Option ℕ). is_some number) (sym is)

-- a text has a number exactly where it is among the texts
pub numbered_there : (text : List ℕ) (texts : List (List ℕ)) → (is_some (number_of text texts) ≡ true) ↔ Contains texts text
numbered_there text texts = (
  λ e. (tagged text texts).0 (sym (is_numbered text texts) ∙ e),
  λ there. is_numbered text texts ∙ (tagged text texts).1 there,
)

-- the number is the place of its text
pub text_at_number : (text : List ℕ) (texts : List (List ℕ)) (k : ℕ) → number_of text texts ≡ Some k → slice_get texts k ≡ Some text
text_at_number text texts k is =
    let here = position-Some (bytes_eq text) texts k text is in
    slice_get-get_or texts k text here.0 ∙ ap (λ (found : List ℕ). Some found) (sym (same_text text (get_or texts k text) here.1))

place_at_most : {X : Type 0} (p : X → Bool) (xs : List X) → position_or_len p xs ≤ length xs
place_at_most p [] = omega arith
place_at_most p (x ∷ xs) = let rest = place_at_most p xs in grind (arith, rest)

-- a number, or the next one, is no more than the number of tags
pub next_below : (text : List ℕ) (texts : List (List ℕ)) → number_or_next text texts ≤ length texts
next_below text texts = place_at_most (bytes_eq text) texts

-- a new text has the next number
next_by : (text : List ℕ) (texts : List (List ℕ)) → is_tag text texts ≡ false → number_or_next text texts ≡ length texts
next_by text texts fresh =
    let at_most = place_at_most (bytes_eq text) texts in
    let test = sym (any_by_place (bytes_eq text) texts) ∙ fresh in
    grind (arith, nat_tests, at_most, test)

-- ---- with a text

module _ (text : List ℕ) (texts : List (List ℕ)) where
  known_by : is_tag text texts ≡ true → with_tag texts text ≡ texts
  known_by is = ap (λ (test : Bool). if test then texts else texts ++ text ∷ []) is

  new_by : is_tag text texts ≡ false → with_tag texts text ≡ texts ++ text ∷ []
  new_by fresh = ap (λ (test : Bool). if test then texts else texts ++ text ∷ []) fresh

  -- where it is new it goes last, and where it isn't nothing changes
  pub with_by : {P : Type 0} → (is_tag text texts ≡ true → with_tag texts text ≡ texts → P) → (is_tag text texts ≡ false → with_tag texts text ≡ texts ++ text ∷ [] → P) → P
  with_by {P} known new = by (is_tag text texts) refl where
    by : (test : Bool) → is_tag text texts ≡ test → P
    by true is = known is (known_by is)
    by false is = new is (new_by is)

  -- the text has its number then, and the number is below the length
  pub next_within : number_or_next text texts < length (with_tag texts text)
  next_within = with_by
      (λ is same. let test = sym (any_by_place (bytes_eq text) texts) ∙ is in rw same (ltb-true _ _ test))
      (λ is more. let last = next_by text texts is in rw more (omega (arith, last, length-append texts)))

  pub number_with_tag : number_of text (with_tag texts text) ≡ Some (number_or_next text texts)
  number_with_tag = with_by
      (λ is same. let test = sym (any_by_place (bytes_eq text) texts) ∙ is in rw (same, test) refl)
      (λ is more.
      let last = next_by text texts is in
      let place = position_or_len_push (bytes_eq text) texts text in
      let within : nat_lt (length texts) (length (texts ++ text ∷ [])) ≡ true = lt-ltb _ _ (omega (arith, length-append texts)) in
      let here : position_or_len (bytes_eq text) (texts ++ text ∷ []) ≡ length texts =
      place ∙ rw (last, eq-eqb (length texts) (length texts) refl, itself text) (omega arith) in
      rw (more, here, within, last) refl)

  pub length-with_tag : length (with_tag texts text) ≤ length texts + 1
  length-with_tag = with_by (λ is same. rw same (omega arith)) (λ is more. rw more (omega (arith, length-append texts)))

  pub length-grows : length texts ≤ length (with_tag texts text)
  length-grows = with_by (λ is same. rw same (omega arith)) (λ is more. rw more (omega (arith, length-append texts)))

  pub known_stays : Contains texts text → with_tag texts text ≡ texts
  known_stays there = known_by ((tagged text texts).1 there)

  pub distinct-with_tag : AreDistinctTexts texts → AreDistinctTexts (with_tag texts text)
  distinct-with_tag distinct = with_by (λ is same. rw same distinct)
      (λ is more. rw more (all_pairs_push (λ a b. a ≢ b) texts text distinct
      (λ k d lt same. both_ways _ is (list_any_at (bytes_eq text) texts k d lt (rw same (itself text))))))

  -- a number that it has is its number
  pub number_is : (found : Option ℕ) → number_of text texts ≡ found → (k : ℕ) → found ≡ Some k → number_or_next text texts ≡ k
  number_is found is k e = by_test (nat_lt (number_or_next text texts) (length texts)) (is ∙ e) where
    by_test : (test : Bool) → cond test (Some (number_or_next text texts)) None ≡ Some k → number_or_next text texts ≡ k
    by_test true same = cc same
    by_test false same = absurd (cc same)

  -- and a text that has none is new
  pub unnumbered_new : number_of text texts ≡ None → with_tag texts text ≡ texts ++ text ∷ []
  unnumbered_new none = with_by
      (λ is same. absurd (both_ways _ (ap (λ (found : Option ℕ). is_some found) none) (is_numbered text texts ∙ is)))
      (λ is more. more)

  -- and one that has one is known
  pub numbered_known : (k : ℕ) → number_of text texts ≡ Some k → with_tag texts text ≡ texts
  numbered_known k is = known_by (sym (is_numbered text texts) ∙ ap (λ (found : Option ℕ). is_some found) is)

  -- the texts of a table are such still
  pub AreNumbered-with_tag : HasPlaceFor text texts → AreNumbered texts → AreNumbered (with_tag texts text)
  AreNumbered-with_tag place numbered = record { few = few_by place; distinct = distinct-with_tag numbered.distinct } where
    few_by : HasPlaceFor text texts → length (with_tag texts text) ≤ MAX_TAGS
    few_by (inl known) = rw (known_by known) numbered.few
    few_by (inr room) = omega (arith, room, length-with_tag)

  -- the next number is that of a text that has none
  pub unnumbered_next : number_of text texts ≡ None → number_or_next text texts ≡ length texts
  unnumbered_next none = by_test (is_tag text texts) refl where
    by_test : (test : Bool) → is_tag text texts ≡ test → number_or_next text texts ≡ length texts
    by_test true is = absurd (both_ways _ (ap (λ (found : Option ℕ). is_some found) none) (is_numbered text texts ∙ is))
    by_test false is = next_by text texts is

-- ---- with two texts, one behind the other

-- a number stays when another text is numbered
pub number_stays : (text other : List ℕ) (texts : List (List ℕ)) (k : ℕ) → number_of text texts ≡ Some k → number_of text (with_tag texts other) ≡ Some k
number_stays text other texts k is = with_by other texts
    (λ known same. rw same is)
    (λ new more.
    let last = number_is text texts (Some k) is k refl in
    let there = (position-Some (bytes_eq text) texts k text is).0 in
    let place = position_or_len_push (bytes_eq text) texts other in
    let here : position_or_len (bytes_eq text) (texts ++ other ∷ []) ≡ k = place ∙ rw (last, ne_eqb k (length texts) (λ same. absurd (omega (arith, there, same)))) refl in
    let within : nat_lt k (length (texts ++ other ∷ [])) ≡ true = lt-ltb _ _ (omega (arith, there, length-append texts)) in
    rw (more, here, within) refl)

among : (known same : Bool) → (same ≡ true → known ≡ true) → known ≡ (known || same)
among true same is = refl
among false false is = refl
among false true is = is refl

or_last : (known same : Bool) → (known || (same || false)) ≡ (known || same)
or_last true same = refl
or_last false true = refl
or_last false false = refl

true_from_not : (test : Bool) → not test ≡ false → test ≡ true
true_from_not true e = refl
true_from_not false e = absurd (cc e)

false_from_not : (test : Bool) → not test ≡ true → test ≡ false
false_from_not true e = absurd (cc e)
false_from_not false e = refl

place_behind : (known same : Bool) (at n : ℕ) → known ≡ nat_lt at n → at ≤ n → known || same ≡ true → cond (eqb at n) (n + cond same 0 1) at ≡ at
place_behind true same at n e most is = grind (arith, nat_tests, e, most)
place_behind false true at n e most is = grind (arith, nat_tests, e, most)
place_behind false false at n e most is = absurd (cc is)

-- with a text there is one more where it is new
pub length_with : (text : List ℕ) (texts : List (List ℕ)) → length (with_tag texts text) ≡ length texts + (if is_tag text texts then 0 else 1)
length_with text texts = with_by text texts
    (λ known same. rw (same, known) (omega arith))
    (λ new more. rw (more, new) (length-append texts (text ∷ [])))

module _ (first second : List ℕ) (texts : List (List ℕ)) where
  -- the second is a tag where it was one, and where it is the first
  pub tag_behind : is_tag second (with_tag texts first) ≡ (is_tag second texts || bytes_eq second first)
  tag_behind = with_by first texts
      (λ known same. rw same (among (is_tag second texts) (bytes_eq second first)
      (λ equal. ap (λ (text : List ℕ). is_tag text texts) (same_text second first equal) ∙ known)))
      (λ new more. rw more (list_any-append (bytes_eq second) texts (first ∷ []) ∙ or_last (is_tag second texts) (bytes_eq second first)))

  -- where it is a tag then, its number is the one without the first
  pub same_behind : is_new_behind first second texts ≡ false → number_behind first second texts ≡ number_or_next second texts
  same_behind old = with_by first texts
      (λ known same. rw same refl)
      (λ new more.
      let place = position_or_len_push (bytes_eq second) texts first in
      let step = place_behind (is_tag second texts) (bytes_eq second first) (number_or_next second texts) (length texts)
      (any_by_place (bytes_eq second) texts) (next_below second texts) (sym tag_behind ∙ true_from_not (is_tag second (with_tag texts first)) old) in
      rw more (place ∙ step))

  -- and where it is new, it comes behind all of them
  pub new_behind : is_new_behind first second texts ≡ true → number_behind first second texts ≡ length texts + (if is_tag first texts then 0 else 1)
  new_behind new = next_by second (with_tag texts first) (false_from_not (is_tag second (with_tag texts first)) new) ∙ length_with first texts

  -- each of the two that is new then is one more
  pub length_behind : length (with_tag (with_tag texts first) second) ≡ length texts + (if is_tag first texts then 0 else 1) + (if is_new_behind first second texts then 1 else 0)
  length_behind = length_with second (with_tag texts first) ∙ rw (length_with first texts) (by (is_tag second (with_tag texts first))) where
    by : (known : Bool) → length texts + (if is_tag first texts then 0 else 1) + (if known then 0 else 1) ≡ length texts + (if is_tag first texts then 0 else 1) + (if not known then 1 else 0)
    by true = refl
    by false = refl

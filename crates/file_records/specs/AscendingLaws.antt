-- Lists of files: what filters keep of them, which numbers they name, and that two ascending lists that name the same are equal.
use Rattle.std.proofs.Common.{◌≡◌, ◌<◌, ◌≤◌, ◌==◌, ◌&&◌, ◌||◌, ℕ, suc, Bool, true, false, cond, nat_lt, List, [], ◌∷◌, length, get_or, ⊎_elim, refl, ap, sym, ◌∙◌, arith}
use Rattle.std.specs.List.{All, AllPairs, filter}
use Rattle.std.proofs.lemmas.Bool.{eq-eqb, ne_eqb, eqb-true, ltb-true, ltb-false, both_ways, or_left, or_cases, and_right}
use Rattle.std.proofs.lemmas.List.Elements.{All-head, All-tail}
use Rattle.std.proofs.lemmas.List.Folds.{list_any_at, list_any_none, Any-from_list_any}
use Rattle.std.proofs.lemmas.List.FromFn.{get_or-map-range_with_len, length-map-range_with_len}
use Rattle.media_types.specs.ListLaws.{AllPairs-tail}
use Rattle.media_types.specs.Numbered.{files}
use Rattle.media_types.specs.declared.numbers.FileNo.{FileNo}
use Rattle.file_records.specs.Searching.{is_named}
use Rattle.spare_tables.specs.KeyLaws.{by_test}

abbrev pub file_of : ℕ → FileNo
file_of k = record { 0 = k }

-- each file is before the greater ones, and no file stands twice
abbrev pub Ascend : List FileNo → Type 0
Ascend fs = AllPairs (λ a b. a.0 < b.0) fs

-- ---- filters
pub filter_agree_on : {X : Type 0} (p q : X → Bool) (xs : List X) → All (λ x. p x ≡ q x) xs → filter p xs ≡ filter q xs
filter_agree_on p q [] same = refl
filter_agree_on p q (x ∷ xs) same =
    ap (λ b. cond b (x ∷ filter p xs) (filter p xs)) (All-head (λ y. p y ≡ q y) x xs same)
    ∙ ap (λ ys. cond (q x) (x ∷ ys) ys) (filter_agree_on p q xs (All-tail (λ y. p y ≡ q y) x xs same))

pub filter_none : {X : Type 0} (p : X → Bool) (xs : List X) → ((x : X) → p x ≡ false) → filter p xs ≡ []
filter_none p [] none = refl
filter_none p (x ∷ xs) none = ap (λ b. cond b (x ∷ filter p xs) (filter p xs)) (none x) ∙ filter_none p xs none

kept_twice : {X : Type 0} (p : X → Bool) (x : X) (b : Bool) (ys zs : List X) → filter p ys ≡ zs → filter p (cond b (x ∷ ys) ys) ≡ cond (b && p x) (x ∷ zs) zs
kept_twice p x true ys zs same = ap (λ us. cond (p x) (x ∷ us) us) same
kept_twice p x false ys zs same = same

pub filter_filter : {X : Type 0} (p q : X → Bool) (xs : List X) → filter p (filter q xs) ≡ filter (λ x. q x && p x) xs
filter_filter p q [] = refl
filter_filter p q (x ∷ xs) = kept_twice p x (q x) (filter q xs) (filter (λ y. q y && p y) xs) (filter_filter p q xs)

-- ---- the numbers that a list names
kept_named : (p : FileNo → Bool) (f : FileNo) (fs : List FileNo) (k : ℕ) (here passing : Bool) → (f.0 == k) ≡ here → p f ≡ passing →
    is_named (filter p fs) k ≡ (is_named fs k && p (file_of k)) →
    is_named (cond passing (f ∷ filter p fs) (filter p fs)) k ≡ ((here || is_named fs k) && p (file_of k))
kept_named p f fs k true true at pass rest =
    ap (λ b. b || is_named (filter p fs) k) at ∙ sym pass ∙ ap (λ n. p (file_of n)) (eqb-true f.0 k at)
kept_named p f fs k true false at fail rest =
    let fails : p (file_of k) ≡ false = sym (ap (λ n. p (file_of n)) (eqb-true f.0 k at)) ∙ fail in
    rest ∙ and_right _ _ fails ∙ sym fails
kept_named p f fs k false true at pass rest = ap (λ b. b || is_named (filter p fs) k) at ∙ rest
kept_named p f fs k false false at fail rest = rest

pub named_in_filter : (p : FileNo → Bool) (fs : List FileNo) (k : ℕ) → is_named (filter p fs) k ≡ (is_named fs k && p (file_of k))
named_in_filter p [] k = refl
named_in_filter p (f ∷ fs) k = kept_named p f fs k (f.0 == k) (p f) refl refl (named_in_filter p fs k)

pub file_at : (n k : ℕ) (d : FileNo) → k < n → get_or (files n) k d ≡ file_of k
file_at n k d below = get_or-map-range_with_len file_of 0 n k k d below (omega arith)

pub length-files : (n : ℕ) → length (files n) ≡ n
length-files n = length-map-range_with_len file_of 0 n

-- all files are those below their number
pub named_in_files : (n k : ℕ) → is_named (files n) k ≡ nat_lt k n
named_in_files n k = by_test (nat_lt k n)
    (λ below. let lt = ltb-true k n below in
    list_any_at (λ f. f.0 == k) (files n) k (file_of 0) (omega (arith, lt, length-files n))
    (ap (λ f. f.0 == k) (file_at n k (file_of 0) lt) ∙ eq-eqb k k refl) ∙ sym below)
    (λ past. list_any_none (λ f. f.0 == k) (files n) (λ i d within.
    let lt : i < n = omega (arith, within, length-files n) in
    ap (λ f. f.0 == k) (file_at n i d lt) ∙ ne_eqb i k (λ same. omega (arith, same, lt, ltb-false k n past))) ∙ sym past)

pub files_known : (n : ℕ) → All (λ f. f.0 < n) (files n)
files_known n = λ k d within. let lt : k < n = omega (arith, within, length-files n) in omega (arith, lt, ap (λ f. f.0) (file_at n k d lt))

pub files_ascend : (n : ℕ) → Ascend (files n)
files_ascend n = λ i j d before within.
    let second : j < n = omega (arith, within, length-files n) in
    let first : i < n = omega (arith, before, second) in
    omega (arith, before, ap (λ f. f.0) (file_at n i d first), ap (λ f. f.0) (file_at n j d second))

-- ---- two ascending lists that name the same
above_first : (f : FileNo) (fs : List FileNo) (k : ℕ) → Ascend (f ∷ fs) → is_named fs k ≡ true → f.0 < k
above_first f fs k up there =
    let found = Any-from_list_any (λ g. g.0 == k) fs there in
    let next : f.0 < (get_or fs found.0 found.1).0 = up 0 (suc found.0) found.1 (omega arith) (omega (arith, found.2)) in
    omega (arith, next, ap (λ g. g.0) found.3, eqb-true found.1.0 k found.4)

from_first : (f : FileNo) (fs : List FileNo) (k : ℕ) → Ascend (f ∷ fs) → is_named (f ∷ fs) k ≡ true → f.0 ≤ k
from_first f fs k up there = ⊎_elim
    (λ here. omega (arith, eqb-true f.0 k here))
    (λ later. omega (arith, above_first f fs k up later))
    (or_cases (f.0 == k) (is_named fs k) there)

names_itself : (f : FileNo) (fs : List FileNo) → is_named (f ∷ fs) f.0 ≡ true
names_itself f fs = or_left _ _ (eq-eqb f.0 f.0 refl)

not_again : (f : FileNo) (fs : List FileNo) (k : ℕ) → Ascend (f ∷ fs) → f.0 ≡ k → is_named fs k ≡ false
not_again f fs k up at = by_test (is_named fs k)
    (λ there. absurd (omega (arith, at, above_first f fs k up there)))
    (λ missing. missing)

same_after : (f g : FileNo) (fs gs : List FileNo) (k : ℕ) → Ascend (f ∷ fs) → Ascend (g ∷ gs) → f.0 ≡ g.0 → is_named (f ∷ fs) k ≡ is_named (g ∷ gs) k → is_named fs k ≡ is_named gs k
same_after f g fs gs k up also first same = by_test (f.0 == k)
    (λ here. let at = eqb-true f.0 k here in not_again f fs k up at ∙ sym (not_again g gs k also (sym first ∙ at)))
    (λ other. ap (λ b. b || is_named fs k) (sym other) ∙ same ∙ ap (λ n. (n == k) || is_named gs k) (sym first) ∙ ap (λ b. b || is_named gs k) other)

pub same_ascending : (fs gs : List FileNo) → Ascend fs → Ascend gs → ((k : ℕ) → is_named fs k ≡ is_named gs k) → fs ≡ gs
same_ascending [] [] up also same = refl
same_ascending [] (g ∷ gs) up also same = absurd (both_ways _ (sym (same g.0)) (names_itself g gs))
same_ascending (f ∷ fs) [] up also same = absurd (both_ways _ (same f.0) (names_itself f fs))
same_ascending (f ∷ fs) (g ∷ gs) up also same =
    let below = from_first f fs g.0 up (same g.0 ∙ names_itself g gs) in
    let above = from_first g gs f.0 also (sym (same f.0) ∙ names_itself f fs) in
    let first : f.0 ≡ g.0 = omega (arith, below, above) in
    ap (λ n. file_of n ∷ fs) first
    ∙ ap (λ hs. g ∷ hs) (same_ascending fs gs (AllPairs-tail (λ a b. a.0 < b.0) f fs up) (AllPairs-tail (λ a b. a.0 < b.0) g gs also) (λ k. same_after f g fs gs k up also first (same k)))

-- Which files are in a queue in which a file was noted.
use Rattle.std.proofs.Common.{◌≡◌, ◌≢◌, ◌⊎◌, ◌↔◌, ℕ, zero, suc, Bool, true, false, IsTrue, List, [], ◌∷◌, ◌++◌, if◌then◌else◌, nat_lt, refl, sym, ap, ◌∙◌, inl, inr, arith}
use Rattle.std.specs.List.{Contains, filter}
use Rattle.std.proofs.lemmas.Bool.{ltb-true, ltb-false, lt-ltb}
use Rattle.std.proofs.lemmas.List.Elements.{All-contains, All-contains_itself, All-filter, Contains-append_left, Contains-append_right, Contains-append_cases, filter_passes}
use Rattle.media_types.specs.declared.numbers.FileNo.{FileNo}
use Rattle.tree_upkeep.specs.Queue.{below, above, noted}

-- ---- filters
kept : (p : FileNo → Bool) (xs : List FileNo) (x : FileNo) → p x ≡ true → Contains xs x → Contains (filter p xs) x
kept p [] x passes (k, within, is) = absurd (omega arith)
kept p (first ∷ xs) x passes (zero, within, is) = rw (ap p is ∙ passes) (zero, omega arith, is)
kept p (first ∷ xs) x passes (suc k, within, is) = kept_later (p first) (kept p xs x passes (k, omega arith, is))
  where
    kept_later : (b : Bool) → Contains (filter p xs) x → Contains (if b then first ∷ filter p xs else filter p xs) x
    kept_later true later = (suc later.0, omega (arith, later.1), later.2)
    kept_later false later = later

was_there : (p : FileNo → Bool) (xs : List FileNo) (x : FileNo) → Contains (filter p xs) x → Contains xs x
was_there p xs x = All-contains (Contains xs) (filter p xs) x (All-filter p (Contains xs) xs (All-contains_itself xs))

passed : (p : FileNo → Bool) (xs : List FileNo) (x : FileNo) → Contains (filter p xs) x → p x ≡ true
passed p xs x = All-contains (λ y. p y ≡ true) (filter p xs) x (filter_passes p xs)

-- ---- this file
not_below : (file : FileNo) (xs : List FileNo) → ¬ (Contains (below file xs) file)
not_below file xs member = let less = ltb-true file.0 file.0 (passed (λ other. nat_lt other.0 file.0) xs file member) in omega arith

not_above : (file : FileNo) (xs : List FileNo) → ¬ (Contains (above file xs) file)
not_above file xs member = let less = ltb-true file.0 file.0 (passed (λ other. nat_lt file.0 other.0) xs file member) in omega arith

pub this_file : (file : FileNo) (queued : Bool) (xs : List FileNo) → Contains (noted file queued xs) file ↔ IsTrue queued
this_file file true xs = (λ member. refl, λ yes. Contains-append_right (below file xs) (file ∷ above file xs) file (zero, omega arith, refl))
this_file file false xs = (
  λ member. elim (Contains-append_cases (below file xs) (above file xs) file member) [
    | inl low ↦ absurd (not_below file xs low)
    | inr high ↦ absurd (not_above file xs high)
  ],
  λ no. absurd (cc),
)

-- ---- other files
abbrev numbered : ℕ → FileNo
numbered number = record { 0 = number }

either_side : (m n : ℕ) → m ≢ n → (b : Bool) → nat_lt m n ≡ b → (nat_lt m n ≡ true) ⊎ (nat_lt n m ≡ true)
either_side m n differ true is = inl is
either_side m n differ false is = inr (lt-ltb n m (omega (arith, ltb-false m n is)))

alone : (file other : FileNo) → other ≢ file → ¬ (Contains (file ∷ []) other)
alone file other differ (zero, within, is) = differ (sym is)
alone file other differ (suc k, within, is) = omega arith

from_middle : (file other : FileNo) (queued : Bool) → other ≢ file → ¬ (Contains (if queued then file ∷ [] else []) other)
from_middle file other true differ member = alone file other differ member
from_middle file other false differ (k, within, is) = omega arith

pub other_files : (file other : FileNo) (queued : Bool) (xs : List FileNo) → other ≢ file → Contains (noted file queued xs) other ↔ Contains xs other
other_files file other queued xs differ =
    let middle : List FileNo = if queued then file ∷ [] else [] in (
      λ member. elim (Contains-append_cases (below file xs) (middle ++ above file xs) other member) [
        | inl low ↦ was_there (λ x. nat_lt x.0 file.0) xs other low
        | inr rest ↦ elim (Contains-append_cases middle (above file xs) other rest) [
          | inl this ↦ absurd (from_middle file other queued differ this)
          | inr high ↦ was_there (λ x. nat_lt file.0 x.0) xs other high
        ]
      ],
      λ member. elim (either_side other.0 file.0 (λ same. differ (ap numbered same)) (nat_lt other.0 file.0) refl) [
        | inl less ↦ Contains-append_left (below file xs) (middle ++ above file xs) other (kept (λ x. nat_lt x.0 file.0) xs other less member)
        | inr greater ↦ Contains-append_right (below file xs) (middle ++ above file xs) other (Contains-append_right middle (above file xs) other (kept (λ x. nat_lt file.0 x.0) xs other greater member))
      ],
    )

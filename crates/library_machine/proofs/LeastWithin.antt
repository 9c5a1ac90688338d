-- The least distance of some rows, where it is within a bound.
use Rattle.std.proofs.Common.{◌≡◌, ℕ, Bool, true, false, cond, if◌then◌else◌, nat_le, min, Option, Some, None, List, [], ◌∷◌, map, refl, ap, ◌∙◌, arith}
use Rattle.std.specs.List.{filter}
use Rattle.std.proofs.lemmas.Bool.{leb-true, leb-false, le-leb, lt-leb}
use Rattle.media_types.specs.Least.{least, lesser}
use Rattle.potential_pairs.specs.Potential.{Row}
use Rattle.library_machine.proofs.KeptPairs.{kept}

-- the row is within the distance
abbrev pub is_within : ℕ → Row → Bool
is_within m row = nat_le row.1 m

if_known : (n : ℕ) (b c : Bool) → b ≡ c → (if b then Some n else None) ≡ (if c then Some n else None)
if_known n b c e = ap (λ (t : Bool). if t then Some n else None) e

module _ (m j k : ℕ) where
  abbrev cut : Option ℕ → Option ℕ
  cut found = kept (is_within m) j k found

  lesser_of_two : (n d : ℕ) (first second : Bool) → nat_le n m ≡ first → nat_le d m ≡ second →
      cut (Some (min n d)) ≡ (if first then lesser n (if second then Some d else None) else (if second then Some d else None))
  lesser_of_two n d true true is_first is_second =
      let le = leb-true _ _ is_first in if_known (min n d) _ true (le-leb _ _ (omega arith))
  lesser_of_two n d true false is_first is_second =
      let le = leb-true _ _ is_first in
      let gt = leb-false _ _ is_second in
      let e : min n d ≡ n = omega arith in
      if_known (min n d) _ true (le-leb _ _ (omega arith)) ∙ ap Some e
  lesser_of_two n d false true is_first is_second =
      let gt = leb-false _ _ is_first in
      let le = leb-true _ _ is_second in
      let e : min n d ≡ d = omega arith in
      if_known (min n d) _ true (le-leb _ _ (omega arith)) ∙ ap Some e
  lesser_of_two n d false false is_first is_second =
      let gt = leb-false _ _ is_first in
      let more = leb-false _ _ is_second in
      if_known (min n d) _ false (lt-leb _ _ (omega arith))

  lesser_within : (n : ℕ) (found : Option ℕ) (first : Bool) → nat_le n m ≡ first →
      cut (lesser n found) ≡ (if first then lesser n (cut found) else cut found)
  lesser_within n None true is = if_known n _ true is
  lesser_within n None false is = if_known n _ false is
  lesser_within n (Some d) first is = lesser_of_two n d first (nat_le d m) is refl

  least_by : (n : ℕ) (ns : List ℕ) (first : Bool) →
      (if first then lesser n (least ns) else least ns) ≡ least (cond first (n ∷ ns) ns)
  least_by n ns true = refl
  least_by n ns false = refl

  -- it is the least of the numbers within the bound
  pub least_within : (ns : List ℕ) → cut (least ns) ≡ least (filter (λ n. nat_le n m) ns)
  least_within [] = refl
  least_within (n ∷ ns) =
      lesser_within n (least ns) (nat_le n m) refl
      ∙ ap (λ (found : Option ℕ). if nat_le n m then lesser n found else found) (least_within ns)
      ∙ least_by n (filter (λ d. nat_le d m) ns) (nat_le n m)

filter_by : {X Y : Type 0} (f : X → Y) (x : X) (xs : List X) (passes : Bool) → cond passes (f x ∷ map f xs) (map f xs) ≡ map f (cond passes (x ∷ xs) xs)
filter_by f x xs true = refl
filter_by f x xs false = refl

pub filter_map_of : {X Y : Type 0} (test : Y → Bool) (f : X → Y) (xs : List X) → filter test (map f xs) ≡ map f (filter (λ x. test (f x)) xs)
filter_map_of test f [] = refl
filter_map_of test f (x ∷ xs) =
    ap (λ ys. cond (test (f x)) (f x ∷ ys) ys) (filter_map_of test f xs) ∙ filter_by f x (filter (λ y. test (f y)) xs) (test (f x))

-- Lists that are kept in part or made of lists: what holds of all members, and which members they have.
use Rattle.std.proofs.Common.{◌≡◌, ◌≤◌, ◌<◌, ℕ, zero, suc, Bool, true, false, cond, List, [], ◌∷◌, length, get_or, sum_by, Contains, Option, Some, None, refl, ap, sym, subst, ◌∙◌, arith}
use Rattle.std.specs.List.{All, cons_option, filter, filter_map, flat_map}
use Rattle.std.proofs.lemmas.List.Concat.{length-flat_map}
use Rattle.std.proofs.lemmas.List.Elements.{All-append, All-cons, All-head, All-nil, All-tail, Contains-append_left, Contains-append_right}
use Rattle.std.proofs.lemmas.List.Sums.{sum_by-le-sum_by}

-- ---- in part
pub Contains-filter : {X : Type 0} (p : X → Bool) (xs : List X) (k : ℕ) (d : X) → k < length xs → p (get_or xs k d) ≡ true → Contains (filter p xs) (get_or xs k d)
Contains-filter p [] k d within passes = absurd (omega arith)
Contains-filter p (x ∷ xs) zero d within passes = rw passes (zero, omega arith, refl)
Contains-filter p (x ∷ xs) (suc k) d within passes = later (p x) (Contains-filter p xs k d (omega arith) passes)
  where
    later : (b : Bool) → Contains (filter p xs) (get_or xs k d) → Contains (cond b (x ∷ filter p xs) (filter p xs)) (get_or xs k d)
    later true member = (suc member.0, omega (arith, member.1), member.2)
    later false member = member

pub All-flat_map : {X Y : Type 0} (P : X → Type 0) (Q : Y → Type 0) (f : X → List Y) → ((x : X) → P x → All Q (f x)) → (xs : List X) → All P xs → All Q (flat_map f xs)
All-flat_map P Q f each [] all = All-nil Q
All-flat_map P Q f each (x ∷ xs) all = All-append Q (f x) (flat_map f xs) (each x (All-head P x xs all)) (All-flat_map P Q f each xs (All-tail P x xs all))

pub All-filter_map : {X Y : Type 0} (Q : Y → Type 0) (h : X → Option Y) → ((x : X) (y : Y) → h x ≡ Some y → Q y) → (xs : List X) → All Q (filter_map h xs)
All-filter_map Q h each [] = All-nil Q
All-filter_map {Y = Y} Q h each (x ∷ xs) = put (h x) refl (All-filter_map Q h each xs)
  where
    put : (found : Option Y) → h x ≡ found → All Q (filter_map h xs) → All Q (cons_option found (filter_map h xs))
    put None is later = later
    put (Some y) is later = All-cons Q y (filter_map h xs) (each x y is) later

pub Contains-flat_map : {X Y : Type 0} (f : X → List Y) (xs : List X) (x : X) (y : Y) → Contains xs x → Contains (f x) y → Contains (flat_map f xs) y
Contains-flat_map f [] x y there inside = absurd (omega (arith, there.1))
Contains-flat_map f (first ∷ xs) x y (zero, within, is) inside = Contains-append_left (f first) (flat_map f xs) y (subst (λ z. Contains (f z) y) (sym is) inside)
Contains-flat_map f (first ∷ xs) x y (suc k, within, is) inside = Contains-append_right (f first) (flat_map f xs) y (Contains-flat_map f xs x y (k, omega arith, is) inside)

pub Contains-filter_map : {X Y : Type 0} (h : X → Option Y) (xs : List X) (x : X) (y : Y) → Contains xs x → h x ≡ Some y → Contains (filter_map h xs) y
Contains-filter_map h [] x y there is = absurd (omega (arith, there.1))
Contains-filter_map h (first ∷ xs) x y (zero, within, at) is = subst (λ found. Contains (cons_option found (filter_map h xs)) y) (sym (ap h at ∙ is)) (zero, omega arith, refl)
Contains-filter_map {Y = Y} h (first ∷ xs) x y (suc k, within, at) is = later (h first) (Contains-filter_map h xs x y (k, omega arith, at) is)
  where
    later : (found : Option Y) → Contains (filter_map h xs) y → Contains (cons_option found (filter_map h xs)) y
    later None member = member
    later (Some z) member = (suc member.0, omega (arith, member.1), member.2)

-- ---- how long they are
pub few-filter_map : {X Y : Type 0} (h : X → Option Y) (xs : List X) → length (filter_map h xs) ≤ length xs
few-filter_map h [] = omega arith
few-filter_map {Y = Y} h (x ∷ xs) = count (h x) (few-filter_map h xs)
  where
    count : (found : Option Y) → length (filter_map h xs) ≤ length xs → length (cons_option found (filter_map h xs)) ≤ suc (length xs)
    count None few = omega arith
    count (Some y) few = omega arith

pub few-flat_map : {X Y : Type 0} (f : X → List Y) (most : X → ℕ) (xs : List X) → ((x : X) → length (f x) ≤ most x) → length (flat_map f xs) ≤ sum_by most xs
few-flat_map f most xs few = omega (arith, length-flat_map f xs, sum_by-le-sum_by (λ x. length (f x)) most xs few)

-- Rows of relations by number, and what a removal makes of them.
use Rattle.std.proofs.Common.{◌≡◌, ℕ, zero, suc, ◌<◌, ◌≤◌, List, [], ◌∷◌, All, length, map, get_or, set, slice_get, Some, refl, ap, arith}
use Rattle.std.specs.List.{AllByRecursion}
use Rattle.std.proofs.lemmas.List.Elements.{All-from_recursion, recursion_from_All}
use Rattle.sibling_chains.specs.declared.relation_row.RelationRow.{RelationRow}
use Rattle.sibling_chains.specs.Recorded.{no_row, removed, removed_at}

-- a removal keeps the number of rows
pub length-removed : (n : ℕ) (rows : List RelationRow) → length (removed_at n rows) ≡ length rows
length-removed n [] = refl
length-removed zero (row ∷ rows) = refl
length-removed (suc n) (row ∷ rows) = ap suc (length-removed n rows)

-- no row of this number: nothing is removed
pub removed-past : (n : ℕ) (rows : List RelationRow) → length rows ≤ n → removed_at n rows ≡ rows
removed-past n [] h = refl
removed-past zero (row ∷ rows) h = absurd (omega (arith, h))
removed-past (suc n) (row ∷ rows) h = ap (λ l. row ∷ l) (removed-past n rows (omega (arith, h)))

-- a row is taken out, marked, and put back
pub set-removed : (rows : List RelationRow) (n : ℕ) (row between : RelationRow) → slice_get rows n ≡ Some row → set (set rows n between) n (removed row) ≡ removed_at n rows
set-removed [] n row between is = absurd (cc)
set-removed (r ∷ rows) zero row between is = let same : row ≡ r = cc in ap (λ (x : RelationRow). removed x ∷ rows) same
set-removed (r ∷ rows) (suc n) row between is = ap (λ (l : List RelationRow). r ∷ l) (set-removed rows n row between is)

-- the row that is removed
pub get-removed-this : (n : ℕ) (rows : List RelationRow) → n < length rows → get_or (removed_at n rows) n no_row ≡ removed (get_or rows n no_row)
get-removed-this n [] h = absurd (omega (arith, h))
get-removed-this zero (row ∷ rows) h = refl
get-removed-this (suc n) (row ∷ rows) h = get-removed-this n rows (omega (arith, h))

-- the others stay
pub get-removed-other : (n k : ℕ) (rows : List RelationRow) → (n ≡ k → ⊥) → get_or (removed_at n rows) k no_row ≡ get_or rows k no_row
get-removed-other n k [] h = refl
get-removed-other zero zero (row ∷ rows) h = absurd (h refl)
get-removed-other zero (suc k) (row ∷ rows) h = refl
get-removed-other (suc n) zero (row ∷ rows) h = refl
get-removed-other (suc n) (suc k) (row ∷ rows) h = get-removed-other n k rows (λ e. h (ap suc e))

-- a removal changes no tag
pub first-removed : (n k : ℕ) (rows : List RelationRow) → (get_or (removed_at n rows) k no_row).first.0 ≡ (get_or rows k no_row).first.0
first-removed n k [] = refl
first-removed zero zero (row ∷ rows) = refl
first-removed zero (suc k) (row ∷ rows) = refl
first-removed (suc n) zero (row ∷ rows) = refl
first-removed (suc n) (suc k) (row ∷ rows) = first-removed n k rows

-- the row of a number
pub row-there : (rows : List RelationRow) (at : ℕ) (row : RelationRow) → slice_get rows at ≡ Some row → get_or rows at no_row ≡ row
row-there [] at row is = absurd (cc)
row-there (r ∷ rows) zero row is = cc
row-there (r ∷ rows) (suc at) row is = row-there rows at row is

pub map-removed : {X : Type 0} (f : RelationRow → X) → ((row : RelationRow) → f (removed row) ≡ f row) → (n : ℕ) (rows : List RelationRow) → map f (removed_at n rows) ≡ map f rows
map-removed f same n [] = refl
map-removed f same zero (row ∷ rows) = ap (λ x. x ∷ map f rows) (same row)
map-removed f same (suc n) (row ∷ rows) = ap (λ l. f row ∷ l) (map-removed f same n rows)

pub all-removed : (P : RelationRow → Type 0) → ((row : RelationRow) → P row → P (removed row)) → (n : ℕ) (rows : List RelationRow) → AllByRecursion P rows → AllByRecursion P (removed_at n rows)
all-removed P keep n [] a = tt
all-removed P keep zero (row ∷ rows) a = (keep row a.0, a.1)
all-removed P keep (suc n) (row ∷ rows) a = (a.0, all-removed P keep n rows a.1)

pub All-removed : (P : RelationRow → Type 0) → ((row : RelationRow) → P row → P (removed row)) → (n : ℕ) (rows : List RelationRow) → All P rows → All P (removed_at n rows)
All-removed P keep n rows a = All-from_recursion P (removed_at n rows) (all-removed P keep n rows (recursion_from_All P rows a))

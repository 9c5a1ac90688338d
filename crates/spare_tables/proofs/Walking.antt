-- What is known of rows that are walked.
use Rattle.std.proofs.Common.{◌≡◌, List, [], ◌∷◌, drop, Option, Some, None, slice_get, refl}
use Rattle.std.specs.Option.{IfSome, IfNone}

-- the rows that are left are one row less, and there are none where no row comes
pub taken_row : {R : Type 0} (rows later : List R) (row : Option R) → row ≡ slice_get rows 0 → later ≡ drop 1 rows → IfSome row (λ r. rows ≡ r ∷ later)
taken_row [] later None is rest = tt
taken_row [] later (Some r) is rest = absurd (cc)
taken_row (x ∷ rows) later None is rest = tt
taken_row (x ∷ rows) later (Some r) is rest = cc

pub none_left : {R : Type 0} (rows : List R) (row : Option R) → row ≡ slice_get rows 0 → IfNone row (rows ≡ [])
none_left [] None is = refl
none_left [] (Some r) is = tt
none_left (x ∷ rows) None is = absurd (cc)
none_left (x ∷ rows) (Some r) is = tt

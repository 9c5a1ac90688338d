-- How far files are searched once a search is done, and which of them are near then.
use Rattle.std.proofs.Common.{◌≡◌, ◌<◌, ◌&&◌, ℕ, zero, suc, max, nat_le, nat_lt, Bool, true, false, if◌then◌else◌, List, [], ◌∷◌, length, slice_get, Option, Some, None, refl, ap, sym, ◌∙◌, arith}
use Rattle.std.specs.Option.{option_map, option_map_or}
use Rattle.std.proofs.lemmas.Bool.{and_parts, false≢true, ltb-true}
use Rattle.media_types.specs.declared.numbers.FileNo.{FileNo}
use Rattle.file_records.specs.Distances.{least_distance}
use Rattle.file_records.specs.Near.{distance_at, hashes_at, if_reached, near_at}
use Rattle.file_records.specs.Searching.{is_named, is_short_of, passes, raised, reaches, rising, searched}
use Rattle.file_records.specs.SearchLaws.{each, named_in_rising, unchanged}
use Rattle.file_records.specs.declared.file_row.FileRow.{FileRow}

-- a risen file was searched within less, or never
pub short_if_risen : (d : ℕ) (rows : List FileRow) (risen : List FileNo) (k : ℕ) → (named : List FileNo) × (risen ≡ rising d named rows) → is_named risen k ≡ true → passes (is_short_of d) rows k ≡ true
short_if_risen d rows risen k (named, is) there =
    (and_parts (is_named named k) (passes (is_short_of d) rows k) (sym (named_in_rising d named rows k) ∙ ap (λ fs. is_named fs k) (sym is) ∙ there)).1

-- ---- one row
hashes_stay : (d : ℕ) (named : Bool) (row : Option FileRow) → option_map_or (λ r. r.hashes) (option_map (λ r. if named then raised d r else r) row) [] ≡ option_map_or (λ r. r.hashes) row []
hashes_stay d named None = refl
hashes_stay d true (Some row) = refl
hashes_stay d false (Some row) = refl

within_far : (d m : ℕ) (far : Option ℕ) → option_map_or (λ s. nat_lt s d) far true ≡ true → nat_le m (option_map_or (max d) far d) ≡ nat_le m d
within_far d m None short = refl
within_far d m (Some s) short = let less = ltb-true s d short in let same : max d s ≡ d = omega arith in ap (nat_le m) same

reach_of_short : (d m : ℕ) (row : Option FileRow) → option_map_or (is_short_of d) row false ≡ true → option_map_or (reaches m) (option_map (raised d) row) false ≡ nat_le m d
reach_of_short d m None short = absurd (false≢true short)
reach_of_short d m (Some row) short = within_far d m row.searched short

-- ---- the rows after a search
module _ (d : ℕ) (risen : List FileNo) (rows : List FileRow) where
  pub same_hashes : (k : ℕ) → hashes_at (searched d risen rows) k ≡ hashes_at rows k
  same_hashes k = ap (λ row. option_map_or (λ r. r.hashes) row []) (each d risen rows k) ∙ hashes_stay d (is_named risen k) (slice_get rows k)

  pub same_distance : (f g : ℕ) → distance_at (searched d risen rows) f g ≡ distance_at rows f g
  same_distance f g = λ i. least_distance (same_hashes f i) (same_hashes g i)

  -- a risen file is searched within the distance and no farther
  pub risen_reach : (k m : ℕ) → is_named risen k ≡ true → passes (is_short_of d) rows k ≡ true → passes (reaches m) (searched d risen rows) k ≡ nat_le m d
  risen_reach k m named short =
      ap (λ row. option_map_or (reaches m) row false) (each d risen rows k ∙ ap (λ b. option_map (λ row. if b then raised d row else row) (slice_get rows k)) named)
      ∙ reach_of_short d m (slice_get rows k) short

  pub same_other : (k : ℕ) → is_named risen k ≡ false → slice_get (searched d risen rows) k ≡ slice_get rows k
  same_other k other = each d risen rows k ∙ ap (λ b. option_map (λ row. if b then raised d row else row) (slice_get rows k)) other ∙ unchanged (slice_get rows k)

  pub other_reach : (k m : ℕ) (row : FileRow) → is_named risen k ≡ false → slice_get rows k ≡ Some row → passes (reaches m) (searched d risen rows) k ≡ option_map_or (nat_le m) row.searched false
  other_reach k m row other is = ap (λ r. option_map_or (reaches m) r false) (same_other k other ∙ is)

  -- ---- two files
  pub near_by_distance : (f g : ℕ) (found : Option ℕ) → distance_at rows f g ≡ found → near_at (searched d risen rows) f g ≡ if_reached (searched d risen rows) f g found
  unfolding near_at
  near_by_distance f g found is = ap (if_reached (searched d risen rows) f g) (same_distance f g ∙ is)

  -- the distance, where it is within the search's and within how far the other file is searched
  pub near_by_reach : (f g away : ℕ) (far : Option ℕ) → distance_at rows f g ≡ Some away → is_named risen f ≡ true → passes (is_short_of d) rows f ≡ true
      → ((m : ℕ) → passes (reaches m) (searched d risen rows) g ≡ option_map_or (nat_le m) far false)
      → near_at (searched d risen rows) f g ≡ (if nat_le away d && option_map_or (nat_le away) far false then Some away else None)
  near_by_reach f g away far is named short reach =
      near_by_distance f g (Some away) is
      ∙ ap (λ b. if b && passes (reaches away) (searched d risen rows) g then Some away else None) (risen_reach f away named short)
      ∙ ap (λ b. if nat_le away d && b then Some away else None) (reach away)

row_there : (rows : List FileRow) (k : ℕ) → k < length rows → (row : FileRow) × (slice_get rows k ≡ Some row)
row_there [] k within = absurd (omega arith)
row_there (row ∷ rows) zero within = (row, refl)
row_there (row ∷ rows) (suc k) within = row_there rows k (omega arith)

-- the distance of two files, as it was worked out from their rows
pub distance_known : (rows : List FileRow) (f g : ℕ) (found : Option ℕ) → f < length rows → g < length rows
    → ((a b : FileRow) → slice_get rows f ≡ Some a → slice_get rows g ≡ Some b → found ≡ least_distance a.hashes b.hashes) → distance_at rows f g ≡ found
distance_known rows f g found f_within g_within is =
    let a = row_there rows f f_within in
    let b = row_there rows g g_within in
    (λ i. least_distance (option_map_or (λ r. r.hashes) (a.1 i) []) (option_map_or (λ r. r.hashes) (b.1 i) [])) ∙ sym (is a.0 b.0 a.1 b.1)

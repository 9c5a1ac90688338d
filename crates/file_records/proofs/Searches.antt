-- A search of one file, as its row is written: the tables by which files are found stay right.
use Rattle.std.proofs.Common.{◌≡◌, ◌<◌, ◌+◌, ◌||◌, ℕ, zero, suc, max, Bool, true, false, nat_lt, Option, Some, None, List, [], ◌∷◌, length, get_or, set, slice_get, map, refl, ap, sym, ◌∙◌, arith}
use Rattle.std.specs.Option.{option_map, option_map_or}
use Rattle.std.proofs.lemmas.Bool.{ltb-true, eq-eqb, ne_eqb}
use Rattle.std.proofs.lemmas.Option.{same_Some, slice_get_read}
use Rattle.media_types.specs.declared.hash.Hash64.{Hash64}
use Rattle.media_types.specs.declared.hash.Sha.{Sha}
use Rattle.media_types.specs.declared.numbers.FileNo.{FileNo}
use Rattle.file_records.specs.declared.file_row.FileRow.{FileRow}
use Rattle.file_records.specs.Indexing.{AreHeld, IsSound}
use Rattle.file_records.specs.Searching.{is_named, is_short_of, raised, searched, searched_from}
use Rattle.file_records.specs.Words.{has_hash, has_number, words_of}
use Rattle.file_records.specs.SearchLaws.{after, distinct, each, hashes_at, kept, same_length, stays, words}

-- ---- the tables by which files are found stay right
shas_from : (d n : ℕ) (named : List FileNo) (rows : List FileRow) → map (λ r. r.sha) (searched_from n d named rows) ≡ map (λ r. r.sha) rows
shas_from d n named [] = refl
shas_from d n named (row ∷ rows) =
    ap (λ sha. sha ∷ map (λ r. r.sha) (searched_from (suc n) d named rows)) (kept (λ r. r.sha) d (λ r. refl) (is_named named n) row)
    ∙ ap (λ shas. row.sha ∷ shas) (shas_from d (suc n) named rows)

shas : (d : ℕ) (named : List FileNo) (rows : List FileRow) → map (λ r. r.sha) (searched d named rows) ≡ map (λ r. r.sha) rows
unfolding searched
shas d named rows = shas_from d 0 named rows

sound_after : (index : List Sha) (d : ℕ) (named : List FileNo) (rows : List FileRow) → IsSound index rows → IsSound index (searched d named rows)
sound_after index d named rows sound = record {
  in_order = sound.in_order ∙ sym (shas d named rows);
  distinct = distinct d named rows sound.distinct;
  few = let few = sound.few in omega (arith, few, same_length d named rows);
  few_hashes = λ k e within.
      let few = sound.few_hashes k e (omega (arith, within, same_length d named rows)) in
      omega (arith, few, ap length (hashes_at d named rows k e));
}

has_hash_kept : (words : List Hash64) (h d : ℕ) (named : Bool) (row : Option FileRow) →
    option_map_or (λ r. has_number words h r.hashes) (option_map (after d named) row) false ≡ option_map_or (λ r. has_number words h r.hashes) row false
has_hash_kept words h d named None = refl
has_hash_kept words h d named (Some row) = ap (has_number words h) (kept (λ r. r.hashes) d (λ r. refl) named row)

has_hash_after : (h d : ℕ) (named : List FileNo) (rows : List FileRow) (k : ℕ) → has_hash h (searched d named rows) k ≡ has_hash h rows k
has_hash_after h d named rows k =
    ap (λ ws. option_map_or (λ r. has_number ws h r.hashes) (slice_get (searched d named rows) k) false) (words d named rows)
    ∙ ap (λ row. option_map_or (λ r. has_number (words_of rows) h r.hashes) row false) (each d named rows k)
    ∙ has_hash_kept (words_of rows) h d (is_named named k) (slice_get rows k)

held_after : (index : List Hash64) (pairs : List (ℕ × ℕ)) (d : ℕ) (named : List FileNo) (rows : List FileRow) → AreHeld index pairs rows → AreHeld index pairs (searched d named rows)
held_after index pairs d named rows held = record {
  in_order = held.in_order ∙ sym (words d named rows);
  holders = λ h k. (
    λ member. has_hash_after h d named rows k ∙ (held.holders h k).0 member,
    λ has. (held.holders h k).1 (sym (has_hash_after h d named rows k) ∙ has),
  );
}

pub tables_after : (index : List Sha) (words : List Hash64) (pairs : List (ℕ × ℕ)) (d : ℕ) (named : List FileNo) (rows after : List FileRow) → after ≡ searched d named rows →
    IsSound index rows × AreHeld words pairs rows → IsSound index after × AreHeld words pairs after
tables_after index words pairs d named rows after is were = rw is (sound_after index d named rows were.0, held_after words pairs d named rows were.1)

-- ---- one file, as its row is written
lesser_goes : (d : ℕ) (searched : Option ℕ) → option_map_or (λ s. nat_lt s d) searched true ≡ true → d ≡ option_map_or (max d) searched d
lesser_goes d None short = refl
lesser_goes d (Some s) short = let lt = ltb-true s d short in omega (arith, lt)

past_from : (d n : ℕ) (file : FileNo) (rows : List FileRow) → file.0 < n → rows ≡ searched_from n d (file ∷ []) rows
past_from d n file [] past = refl
past_from d n file (row ∷ rows) past =
    ap (λ b. after d (b || false) row ∷ rows) (sym (ne_eqb file.0 n (λ same. omega (arith, same, past))))
    ∙ ap (λ rs. after d (is_named (file ∷ []) n) row ∷ rs) (past_from d (suc n) file rows (omega (arith, past)))

set_from : (d n : ℕ) (file : FileNo) (rows : List FileRow) (k : ℕ) (row : FileRow) → n + k ≡ file.0 → slice_get rows k ≡ Some row →
    set rows k (raised d row) ≡ searched_from n d (file ∷ []) rows
set_from d n file [] k row at is = absurd (cc)
set_from d n file (first ∷ rows) zero row at is =
    let here : file.0 ≡ n = omega (arith, at) in
    ap (λ r. raised d r ∷ rows) (sym (same_Some first row is))
    ∙ ap (λ b. after d (b || false) first ∷ rows) (sym (eq-eqb file.0 n here))
    ∙ ap (λ rs. after d (is_named (file ∷ []) n) first ∷ rs) (past_from d (suc n) file rows (omega (arith, here)))
set_from d n file (first ∷ rows) (suc k) row at is =
    ap (λ b. after d (b || false) first ∷ set rows k (raised d row)) (sym (ne_eqb file.0 n (λ same. omega (arith, same, at))))
    ∙ ap (λ rs. after d (is_named (file ∷ []) n) first ∷ rs) (set_from d (suc n) file rows k row (omega (arith, at)) is)

searched_one : (d : ℕ) (file : FileNo) (rows : List FileRow) (row : FileRow) → slice_get rows file.0 ≡ Some row → set rows file.0 (raised d row) ≡ searched d (file ∷ []) rows
unfolding searched
searched_one d file rows row at = set_from d 0 file rows file.0 row (omega arith) at

-- the rows, where the distance is written
pub row_written : (d : ℕ) (file : FileNo) (rows : List FileRow) (row : FileRow) → file.0 < length rows → row ≡ get_or rows file.0 row → is_short_of d row ≡ true →
    set rows file.0 (record row { searched = Some d }) ≡ searched d (file ∷ []) rows
row_written d file rows row within at short =
    ap (λ s. set rows file.0 (record row { searched = Some s })) (lesser_goes d row.searched short)
    ∙ searched_one d file rows row (slice_get_read rows (length rows) file.0 row refl within at)

-- and where it was far enough, so that it is written as it was
pub row_kept : (d : ℕ) (file : FileNo) (rows : List FileRow) (row : FileRow) → file.0 < length rows → row ≡ get_or rows file.0 row → is_short_of d row ≡ false →
    set rows file.0 row ≡ searched d (file ∷ []) rows
row_kept d file rows row within at far =
    ap (set rows file.0) (sym (stays d row far)) ∙ searched_one d file rows row (slice_get_read rows (length rows) file.0 row refl within at)

-- A mark, as it is written: the tables by which files are found stay right.
use Rattle.std.proofs.Common.{◌≡◌, ◌<◌, ℕ, zero, suc, Bool, false, Some, List, [], ◌∷◌, length, get_or, set, slice_get, map, refl, ap, sym, ◌∙◌, arith}
use Rattle.std.specs.Option.{option_map_or}
use Rattle.std.proofs.lemmas.Option.{same_Some, slice_get_read}
use Rattle.media_types.specs.declared.hash.Hash64.{Hash64}
use Rattle.media_types.specs.declared.hash.Sha.{Sha}
use Rattle.file_records.specs.declared.file_row.FileRow.{FileRow}
use Rattle.file_records.specs.Indexing.{AreHeld, IsSound}
use Rattle.file_records.specs.Living.{with_live_mark, with_mark}
use Rattle.file_records.specs.Words.{has_hash, has_number, words_of}
use Rattle.file_records.specs.MarkLaws.{distinct, kept, part_at, same_length, words}

-- ---- the tables by which files are found stay right
shas : (n : ℕ) (live : Bool) (rows : List FileRow) → map (λ r. r.sha) (with_live_mark n live rows) ≡ map (λ r. r.sha) rows
shas n live [] = refl
shas zero live (row ∷ rows) = refl
shas (suc n) live (row ∷ rows) = ap (λ later. row.sha ∷ later) (shas n live rows)

sound_after : (index : List Sha) (n : ℕ) (live : Bool) (rows : List FileRow) → IsSound index rows → IsSound index (with_live_mark n live rows)
sound_after index n live rows sound = record {
  in_order = sound.in_order ∙ sym (shas n live rows);
  distinct = distinct n live rows sound.distinct;
  few = let few = sound.few in omega (arith, few, same_length n live rows);
  few_hashes = λ k e within.
      let few = sound.few_hashes k e (omega (arith, within, same_length n live rows)) in
      omega (arith, few, ap length (part_at (λ r. r.hashes) (λ l r. refl) n live rows k e));
}

has_hash_after : (h n : ℕ) (live : Bool) (rows : List FileRow) (k : ℕ) → has_hash h (with_live_mark n live rows) k ≡ has_hash h rows k
has_hash_after h n live rows k =
    ap (λ ws. option_map_or (λ r. has_number ws h r.hashes) (slice_get (with_live_mark n live rows) k) false) (words n live rows)
    ∙ kept (λ r. has_number (words_of rows) h r.hashes) false (λ l r. refl) n live rows k

held_after : (index : List Hash64) (pairs : List (ℕ × ℕ)) (n : ℕ) (live : Bool) (rows : List FileRow) → AreHeld index pairs rows → AreHeld index pairs (with_live_mark n live rows)
held_after index pairs n live rows held = record {
  in_order = held.in_order ∙ sym (words n live rows);
  holders = λ h k. (
    λ member. has_hash_after h n live rows k ∙ (held.holders h k).0 member,
    λ has. (held.holders h k).1 (sym (has_hash_after h n live rows k) ∙ has),
  );
}

pub tables_after : (index : List Sha) (words : List Hash64) (pairs : List (ℕ × ℕ)) (n : ℕ) (live : Bool) (rows after : List FileRow) → after ≡ with_live_mark n live rows →
    IsSound index rows × AreHeld words pairs rows → IsSound index after × AreHeld words pairs after
tables_after index words pairs n live rows after is were = rw is (sound_after index n live rows were.0, held_after words pairs n live rows were.1)

-- ---- the mark, as it is written
set_mark : (n : ℕ) (live : Bool) (rows : List FileRow) (row : FileRow) → slice_get rows n ≡ Some row → set rows n (with_mark live row) ≡ with_live_mark n live rows
set_mark n live [] row at = absurd (cc)
set_mark zero live (first ∷ rows) row at = ap (λ r. with_mark live r ∷ rows) (sym (same_Some first row at))
set_mark (suc n) live (first ∷ rows) row at = ap (λ later. first ∷ later) (set_mark n live rows row at)

pub mark_written : (n : ℕ) (live : Bool) (rows : List FileRow) (row : FileRow) → n < length rows → row ≡ get_or rows n row → set rows n (with_mark live row) ≡ with_live_mark n live rows
mark_written n live rows row within at = set_mark n live rows row (slice_get_read rows (length rows) n row refl within at)

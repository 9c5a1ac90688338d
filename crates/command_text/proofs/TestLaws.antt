-- Each test makes what is good of what it tests, and refuses what is bad.
use Rattle.std.proofs.Common.{◌≡◌, ℕ, ◌<◌, ◌≤◌, ◌&&◌, nat_le, inl, inr, true, false, List, length, Option, Some, None, Ok, refl, ap, arith}
use Rattle.std.specs.Option.{ok_or}
use Rattle.std.proofs.lemmas.Bool.{leb-true, leb-false, and_parts, and_cases}
use Rattle.media_types.specs.Batch.{IsBatch}
use Rattle.media_types.specs.declared.limits.TheConstants.{MAX_BATCH, MAX_DISTANCE}
use Rattle.media_types.specs.declared.numbers.FileNo.{FileNo}
use Rattle.tag_types.specs.Cleaning as tags
use Rattle.media_base.specs.declared.refusal.Refusal.TheVariants as refusals
use Rattle.command_text.specs.Forms.{tag_of, distance_of, batch_of, files_batch, Test, is_sha, are_words, are_few, is_tag, is_near, is_batch, is_file_batch, test_of, refusal_of}
use Rattle.command_text.specs.Spelling.{IsBad, IsGood}
use Rattle.command_text.proofs.FieldLaws.{some_same}
use Rattle.command_text.proofs.DigitLaws.{tells_sha, tells_words, tells_few}
use Rattle.command_text.proofs.Steps.{Tells, tells_test, tells_then}

told_tag : (found : Option (List ℕ)) → Tells (ok_or found refusals.BadTag) refusals.BadTag (found ≡ None) (λ tag. found ≡ Some tag)
told_tag None = record { either = inl (refl, refl); good = λ tag e. cc e; bad = λ e. refl }
told_tag (Some tag) = record { either = inr (tag, refl, refl); good = λ other e. ap Ok (some_same tag other e); bad = λ e. cc e }

tells_tag : (text : List ℕ) → Tells (tag_of text) refusals.BadTag (tags.tag_of text ≡ None) (λ tag. tags.tag_of text ≡ Some tag)
unfolding tag_of
tells_tag text = told_tag (tags.tag_of text)

tells_distance : (n : ℕ) → Tells (distance_of n) refusals.BadDistance (MAX_DISTANCE < n) (λ distance. (distance ≡ n) × (n ≤ MAX_DISTANCE))
unfolding distance_of
tells_distance n =
    tells_test (nat_le n MAX_DISTANCE) n refusals.BadDistance (MAX_DISTANCE < n) (n ≤ MAX_DISTANCE) (leb-true n MAX_DISTANCE) (leb-false n MAX_DISTANCE) (λ small far. omega arith)

batch : (n : ℕ) → (nat_le 1 n && nat_le n MAX_BATCH) ≡ true → IsBatch n
batch n passes =
    let parts = and_parts (nat_le 1 n) (nat_le n MAX_BATCH) passes in
    record { some = leb-true 1 n parts.0; few = leb-true n MAX_BATCH parts.1 }

no_batch : (n : ℕ) → (nat_le 1 n && nat_le n MAX_BATCH) ≡ false → ¬ (IsBatch n)
no_batch n fails batch =
    elim (and_cases (nat_le 1 n) (nat_le n MAX_BATCH) fails) [
      | inl none ↦ let none = leb-false 1 n none in omega (arith, batch.some)
      | inr many ↦ let many = leb-false n MAX_BATCH many in omega (arith, batch.few)
    ]

tells_batch : (n : ℕ) → Tells (batch_of n) refusals.BadNumber (¬ (IsBatch n)) (λ size. (size ≡ n) × IsBatch n)
unfolding batch_of
tells_batch n =
    tells_test (nat_le 1 n && nat_le n MAX_BATCH) n refusals.BadNumber (¬ (IsBatch n)) (IsBatch n) (batch n) (no_batch n) (λ is lacks. lacks is)

tells_files_batch : (files : List FileNo) → Tells (files_batch files) refusals.BadNumber (¬ (IsBatch (length files))) (λ batch. (batch ≡ files) × IsBatch (length files))
unfolding files_batch
tells_files_batch files = tells_then files (tells_batch (length files))

pub tells : (test : Test) → Tells (test_of test) (refusal_of test) (IsBad test) (IsGood test)
tells (is_sha text) = tells_sha text
tells (are_words texts) = tells_words texts
tells (are_few words) = tells_few words
tells (is_tag text) = tells_tag text
tells (is_near distance) = tells_distance distance
tells (is_batch n) = tells_batch n
tells (is_file_batch files) = tells_files_batch files

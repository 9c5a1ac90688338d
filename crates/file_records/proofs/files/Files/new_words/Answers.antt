use Rattle.std.proofs.Common.{◌≡◌, get_or, not, inl, inr, ap, sym, ◌∙◌}
use Rattle.media_types.specs.declared.hash.Hash64.{Hash64}
use Rattle.file_records.specs.Words.{is_among, words_of}
use Rattle.file_records.specs.NumberLaws.{is_found}
use Rattle.file_records.proofs.Words.{found_before, found_now}
use Rattle.file_records.proofs.files.Files.new_words.Goals as goal
use Rattle.file_records.proofs.files.Files.new_words.Goals.{then-is_none+then-not-contains+in_ok-push, else-is_none, else-is_none-via-then-is_none+else-not-contains, else-is_none-via-else-is_none}

pub loop-hash-preserved : goal.loop-hash-preserved
loop-hash-preserved c =
    let words = words_of c.args.self.now.rows in
    let hashes = c.args.hashes.now in
    let new = c.loop-hash.words in
    let i = c.loop-hash.hash-index in
    let zero : Hash64 = record { 0 = 0 } in
    let hash = get_or hashes i zero in
    let old : is_among words hash ≡ not c.is_none.result = sym (is_found words hash c.find_hash.result c.find_hash.ensures) ∙ c.is_none.ensures in
    elim c.if-is_none.branch [
      | then-is_none+then-not-contains+in_ok-push w ↦
          let found : is_among new hash ≡ w.contains.result = ap (λ ws. is_among ws hash) (sym w.as_slice.ensures) ∙ sym w.contains.ensures.value in
          rw (w.words-is, w.in_ok-push.ensures.ok)
          (found_now words hashes new i zero c.loop-hash-test.true (old ∙ ap not w.if-is_none.true) (found ∙ w.if-not-contains.true) c.loop-hash.invariant)
      | else-is_none w ↦ elim w.else-is_none.branch [
        | else-is_none-via-then-is_none+else-not-contains w' ↦
            let found : is_among new hash ≡ w'.contains.result = ap (λ ws. is_among ws hash) (sym w'.as_slice.ensures) ∙ sym w'.contains.ensures.value in
            rw w.words-is (found_before words hashes new i zero c.loop-hash-test.true (inr (found ∙ w'.if-not-contains.false)) c.loop-hash.invariant)
        | else-is_none-via-else-is_none w' ↦ rw w.words-is (found_before words hashes new i zero c.loop-hash-test.true (inl (old ∙ ap not w'.if-is_none.false)) c.loop-hash.invariant)
      ]
    ]

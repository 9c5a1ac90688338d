use Rattle.std.proofs.Common.{◌≡◌, ◌+◌, ◌==◌, ◌||◌, false, Some, take, take_all, get_or, sym, ◌∙◌, ap, arith}
use Rattle.std.proofs.lemmas.List.Folds.{list_any_more}
use Rattle.std.specs.Option.{option_map_or}
use Rattle.file_records.specs.Words.{number_of, has_number}
use Rattle.file_records.proofs.Holders.{held_more}
use Rattle.file_records.proofs.WordTable.{has_place, number_seen}
use Rattle.file_records.proofs.files.add_holders.Goals as goal

pub unwrap-number-requires : goal.unwrap-number-requires
unwrap-number-requires c =
    let hash = get_or c.args.hashes.now c.loop-hash.hash-index (record { 0 = 0 }) in
    has_place hash c.args.words.now.keys c.get_index_of.result c.get_index_of.ensures.found
    (c.requires.known c.loop-hash.hash-index (record { 0 = 0 }) c.loop-hash-test.true)

pub loop-hash-preserved : goal.loop-hash-preserved
loop-hash-preserved c =
    let words = c.args.words.now.keys in
    let hashes = c.args.hashes.now in
    let i = c.loop-hash.hash-index in
    let hash = get_or hashes i (record { 0 = 0 }) in
    let number : number_of hash words ≡ Some c.unwrap-number.result = sym (number_seen hash words) ∙ sym c.get_index_of.ensures.index ∙ c.unwrap-number.ensures in
    record {
      holders = λ h k.
          held_more h k c.unwrap-number.result c.args.file (has_number words h (take i hashes)) (has_number words h (take (i + 1) hashes))
          (c.insert-added.ensures.members (h, k)) (c.loop-hash.invariant.holders h k)
          (list_any_more (λ w. option_map_or (λ n. n == h) (number_of w words) false) hashes i (record { 0 = 0 }) c.loop-hash-test.true
          ∙ ap (λ at. has_number words h (take i hashes) || option_map_or (λ n. n == h) at false) number);
      spare = omega (arith, c.loop-hash.invariant.spare, c.insert-added.ensures.spare);
    }

pub returns-clause-holders : goal.returns-clause-holders
returns-clause-holders c = λ h k.
    rw (take_all c.loop-hash.hash-index c.args.hashes.now c.loop-hash-test.false) at c.loop-hash.invariant.holders h k

use Rattle.std.proofs.Common.{◌≡◌, ◌≤◌, ◌+◌, ◌++◌, take}
use Rattle.indexmap.specs.IndexSet.{spare}
use Rattle.file_records.proofs.files.add_words.Given as goal

abbrev pub invariant-loop-word : goal.invariant-loop-word
invariant-loop-word l = record {
  words : l.words.keys ≡ l.initial.words.keys ++ take l.word-index l.new;
  spare : spare l.initial.words ≤ spare l.words + l.word-index;
}

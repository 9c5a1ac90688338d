use Rattle.std.proofs.Common.{◌≡◌, length}
use Rattle.file_records.specs.Words.{words_of}
use Rattle.near_search.proofs.tests.set_searched.Given as goal

abbrev pub invariant-loop-file : goal.invariant-loop-file
invariant-loop-file l = record {
  words : words_of l.files.rows ≡ words_of l.initial.files.rows;
  long : length l.files.rows ≡ length l.initial.files.rows;
}

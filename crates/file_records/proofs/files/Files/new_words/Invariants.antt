use Rattle.file_records.specs.Words.{words_of}
use Rattle.file_records.proofs.Words.{FoundSoFar}
use Rattle.file_records.proofs.files.Files.new_words.Given as goal

abbrev pub invariant-loop-hash : goal.invariant-loop-hash
invariant-loop-hash l = FoundSoFar (words_of l.self.rows) l.hashes l.words l.hash-index

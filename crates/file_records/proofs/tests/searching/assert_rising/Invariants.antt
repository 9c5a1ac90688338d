use Rattle.std.proofs.Common.{◌<◌, length, take, All}
use Rattle.file_records.proofs.tests.searching.assert_rising.Given as goal

abbrev pub invariant-loop-file : goal.invariant-loop-file
invariant-loop-file g l = All (λ f. f.0 < length l.files.rows) (take l.file-index l.file-items)

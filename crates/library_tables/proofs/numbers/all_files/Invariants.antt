use Rattle.std.proofs.Common.{◌≡◌}
use Rattle.media_types.specs.Numbered.{files}
use Rattle.library_tables.proofs.numbers.all_files.Given as goal

abbrev pub invariant-loop-number : goal.invariant-loop-number
invariant-loop-number l = l.list ≡ files l.number

use Rattle.std.proofs.Common.{length}
use Rattle.library_tables.proofs.Telling.{IsTelling}
use Rattle.library_tables.proofs.tables.Tables.mappings_of.Given as goal

abbrev pub invariant-loop-tag : goal.invariant-loop-tag
invariant-loop-tag g l = IsTelling l.self l.fn.service l.fn.file l.fn.steps l.steps l.told l.walk

abbrev pub decreases-loop-tag : goal.decreases-loop-tag
decreases-loop-tag g l = length l.walk

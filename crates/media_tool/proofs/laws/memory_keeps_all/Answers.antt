use Rattle.std.proofs.Common.{refl, arith}
use Rattle.media_tool.proofs.laws.memory_keeps_all.Goals as goal

pub returns-clause-room : goal.returns-clause-room
returns-clause-room c = c.ready_keepers_keep_all.ensures.room (λ keeper change none. omega arith)

pub returns-clause-kept : goal.returns-clause-kept
returns-clause-kept c = c.ready_keepers_keep_all.ensures.kept 0 (omega arith) (λ keeper. refl)

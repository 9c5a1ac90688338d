use Rattle.library_machine.proofs.Sound.{sound, wants_room, wants_keeping}
use Rattle.library_machine.proofs.laws.changes_are_kept.Goals as goal

pub returns-clause-told : goal.returns-clause-told
returns-clause-told c = λ s caller command. (sound s caller command).told

pub returns-clause-lead : goal.returns-clause-lead
returns-clause-lead c = λ s caller command. (sound s caller command).leads

pub returns-clause-room : goal.returns-clause-room
returns-clause-room c = wants_room

pub returns-clause-kept : goal.returns-clause-kept
returns-clause-kept c = wants_keeping

use Rattle.library_machine.proofs.TakingBack as back
use Rattle.library_machine.proofs.laws.deletions_are_taken_back.Goals as goal

pub returns : goal.returns
returns c = back.deletions_are_taken_back

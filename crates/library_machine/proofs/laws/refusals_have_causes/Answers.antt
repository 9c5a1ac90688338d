use Rattle.library_machine.proofs.Causes as causes
use Rattle.library_machine.proofs.laws.refusals_have_causes.Goals as goal

pub returns-clause-all : goal.returns-clause-all
returns-clause-all c = causes.refusals_have_causes

pub returns-clause-jobs : goal.returns-clause-jobs
returns-clause-jobs c = causes.jobs_lack_room_alone

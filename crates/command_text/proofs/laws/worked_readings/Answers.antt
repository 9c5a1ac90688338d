use Rattle.command_text.proofs.Worked.{import_reading, decide_reading, pairs_reading}
use Rattle.command_text.proofs.laws.worked_readings.Goals as goal

pub returns-clause-import : goal.returns-clause-import
returns-clause-import c = import_reading

pub returns-clause-decide : goal.returns-clause-decide
returns-clause-decide c = decide_reading

pub returns-clause-pairs : goal.returns-clause-pairs
returns-clause-pairs c = pairs_reading

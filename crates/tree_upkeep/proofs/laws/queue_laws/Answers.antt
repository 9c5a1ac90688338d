use Rattle.tree_upkeep.specs.EndLaws as ends
use Rattle.tree_upkeep.specs.MemberLaws.{this_file, other_files}
use Rattle.tree_upkeep.specs.PlaceLaws.{ascend-noted}
use Rattle.tree_upkeep.proofs.laws.queue_laws.Goals as goal

pub returns-clause-this : goal.returns-clause-this
returns-clause-this c = this_file

pub returns-clause-others : goal.returns-clause-others
returns-clause-others c = other_files

pub returns-clause-ascending : goal.returns-clause-ascending
returns-clause-ascending c = ascend-noted

pub returns-clause-at_end : goal.returns-clause-at_end
returns-clause-at_end c = ends.at_end

pub returns-clause-taken_out : goal.returns-clause-taken_out
returns-clause-taken_out c = ends.taken_out

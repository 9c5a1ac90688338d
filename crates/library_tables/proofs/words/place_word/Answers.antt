use Rattle.std.proofs.Common.{arith}
use Rattle.library_tables.proofs.TreeMarks.{one_more_mark}
use Rattle.library_tables.proofs.words.place_word.Goals as goal

pub returns-in-Some-clause-marked : goal.returns-in-Some-clause-marked
returns-in-Some-clause-marked g c =
    rw c.mark.ensures.marks
    (one_more_mark c.args.tree.now.rows c.commit_insert-branch.new.self.rows c.args.upkeep.now.marks c.in-Some.branch.0 c.requires.marked
    (omega (arith, c.commit_insert-branch.ensures.placed.len)) (c.commit_insert-branch.ensures.inside c.in-Some.branch c.in-Some.is))

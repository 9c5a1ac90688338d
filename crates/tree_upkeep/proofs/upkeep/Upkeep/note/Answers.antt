use Rattle.std.proofs.Common.{true, false, sym, ap, ◌∙◌, subst}
use Rattle.tree_upkeep.specs.Queue.{Work, Ascend, noted}
use Rattle.tree_upkeep.specs.PlaceLaws.{put_in, taken_out, ascend-noted}
use Rattle.tree_upkeep.proofs.upkeep.Upkeep.note.Goals as goal

-- ---- the file is put in
pub returns-then-queued-clause-queue : goal.returns-then-queued-clause-queue
returns-then-queued-clause-queue c =
    c.insert.ensures.rows ∙ put_in c.args.file c.self.inside.files.rows c.self.invariant
    ∙ ap (λ (work : Work). noted c.args.file true work.queue) c.self.view_is
    ∙ ap (λ queued. noted c.args.file queued c.args.self.now.queue) (sym c.if-queued.true)

pub returns-then-queued-clause-ascending : goal.returns-then-queued-clause-ascending
returns-then-queued-clause-ascending c =
    subst Ascend (sym (c.insert.ensures.rows ∙ put_in c.args.file c.self.inside.files.rows c.self.invariant)) (ascend-noted c.args.file true c.self.inside.files.rows c.self.invariant)

pub invariant_of-self : goal.invariant_of-self
invariant_of-self c = returns-then-queued-clause-ascending c

-- ---- the file is taken out
pub returns-else-queued-clause-queue : goal.returns-else-queued-clause-queue
returns-else-queued-clause-queue c =
    c.remove.ensures.rows ∙ taken_out c.args.file c.self.inside.files.rows c.self.invariant
    ∙ ap (λ (work : Work). noted c.args.file false work.queue) c.self.view_is
    ∙ ap (λ queued. noted c.args.file queued c.args.self.now.queue) (sym c.if-queued.false)

pub returns-else-queued-clause-ascending : goal.returns-else-queued-clause-ascending
returns-else-queued-clause-ascending c =
    subst Ascend (sym (c.remove.ensures.rows ∙ taken_out c.args.file c.self.inside.files.rows c.self.invariant)) (ascend-noted c.args.file false c.self.inside.files.rows c.self.invariant)

pub invariant_of-self-else-queued : goal.invariant_of-self-else-queued
invariant_of-self-else-queued c = returns-else-queued-clause-ascending c

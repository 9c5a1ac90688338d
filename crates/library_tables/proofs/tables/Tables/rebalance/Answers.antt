use Rattle.std.proofs.Common.{slice_get, ◌∙◌}
use Rattle.library_tables.proofs.TreeMarks.{marks_rebuilt}
use Rattle.library_tables.proofs.tables.Tables.rebalance.Goals as goal

pub invariant_of-self : goal.invariant_of-self
invariant_of-self g c = record {
  fits = c.self.invariant.fits;
  decided = c.self.invariant.decided;
  grouped = c.self.invariant.grouped;
  related = c.self.invariant.related;
  words = c.commit_rebuild.ensures.words ∙ c.self.invariant.words;
  marked = marks_rebuilt (slice_get c.self.inside.upkeep.marks 0) _ _ c.self.invariant.marked c.commit_rebuild.ensures.rebalanced;
  paired = c.self.invariant.paired;
  queued = c.commit_rebuild.ensures.queue ∙ c.self.invariant.queued;
  ordered = c.self.invariant.ordered;
  parents_ordered = c.self.invariant.parents_ordered;
}

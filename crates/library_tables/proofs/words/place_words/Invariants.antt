use Rattle.std.proofs.Common.{◌≡◌, ◌≤◌, ◌++◌, [], length}
use Rattle.vp_tree.specs.Marking.{ArePlaced}
use Rattle.vp_tree.specs.Nodes.{words_in}
use Rattle.tree_upkeep.specs.Marks.{AreNodes}
use Rattle.library_tables.specs.Imports.{words_planned}
use Rattle.library_tables.specs.Tables.{with_marks}
use Rattle.library_tables.proofs.words.place_words.Given as goal

abbrev pub invariant-loop-plan : goal.invariant-loop-plan
invariant-loop-plan g l = record {
  parts : l.yielded ++ l.plan-iterator.rest.items ≡ l.fn.plans.items;
  placed : ArePlaced (with_marks l.fn.tree l.fn.upkeep) (words_planned l.yielded) (with_marks l.tree l.upkeep);
  words : words_in l.tree.rows ≡ words_in l.fn.tree.rows ++ words_planned l.yielded;
  steps : words_planned l.fn.plans.items ≡ [] → l.steps ≡ l.initial.steps;
  room : length l.plan-iterator.rest.items ≤ l.tree.spare;
  marked : AreNodes l.tree.rows l.upkeep.marks;
  mark_room : length l.plan-iterator.rest.items ≤ l.upkeep.mark_spare;
  queue : l.upkeep.queue ≡ l.fn.upkeep.queue;
  queue_spare : l.upkeep.spare ≡ l.fn.upkeep.spare;
}

use Rattle.std.proofs.Common.{◌≡◌, ◌≤◌, ◌+◌, length, map, take, drop, Option}
use Rattle.media_types.specs.declared.numbers.FileNo.{FileNo}
use Rattle.potential_pairs.specs.Levels.{AreHeads}
use Rattle.potential_pairs.specs.Pages.{named}
use Rattle.potential_pairs.proofs.Paging.{behind}
use Rattle.potential_pairs.proofs.distance_map.DistanceMap.page.Given as goal

-- `place` is the last name that went out, and at first the place where the page begins
abbrev pub invariant-loop-turn : goal.invariant-loop-turn
invariant-loop-turn g l = record {
  place : Option (FileNo × FileNo);
  page : l.page ≡ map named (take l._turn (behind l.fn.after l.at_most l.self.rows));
  rest : behind place l.at_most l.self.rows ≡ drop l._turn (behind l.fn.after l.at_most l.self.rows);
  heads : AreHeads l.self.rows l.at_most place l.heads;
  long : length l.heads ≡ 17;
  reads : l.steps ≤ l.initial.steps + l._turn;
}

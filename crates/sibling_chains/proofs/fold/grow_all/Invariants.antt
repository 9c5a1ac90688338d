use Rattle.std.proofs.Common.{◌≡◌, ◌<◌, ◌≤◌, [], ℕ, length, get_or}
use Rattle.std.specs.Vec.{vec_capacity}
use Rattle.sibling_chains.specs.Ends.{at}
use Rattle.sibling_chains.proofs.fold.grow_all.Given as goal

abbrev pub invariant-loop-service : goal.invariant-loop-service
invariant-loop-service l = record {
  len : length l.ends.items ≡ length l.initial.ends.items;
  capacity : vec_capacity l.ends ≡ vec_capacity l.initial.ends;
  same : (s t : ℕ) → at (get_or l.ends.items s []) t ≡ at (get_or l.initial.ends.items s []) t;
  long : (s : ℕ) → s < l.service → l.tags ≤ length (get_or l.ends.items s []);
}

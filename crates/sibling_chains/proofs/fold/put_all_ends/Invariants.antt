use Rattle.std.proofs.Common.{◌≡◌, ◌<◌, ◌≤◌, ◌==◌, [], ℕ, cond, length, get_or}
use Rattle.std.specs.Vec.{vec_capacity}
use Rattle.std.specs.List.{list_any}
use Rattle.sibling_chains.specs.Ends.{at, end_beside}
use Rattle.sibling_chains.proofs.fold.put_all_ends.Given as goal

abbrev pub invariant-loop-service : goal.invariant-loop-service
invariant-loop-service l = record {
  len : length l.ends.items ≡ length l.initial.ends.items;
  capacity : vec_capacity l.ends ≡ vec_capacity l.initial.ends;
  put : (s t : ℕ) → s < l.service → at (get_or l.ends.items s []) t
      ≡ cond (list_any (λ x. x == t) l.tags) (end_beside l.tags (get_or l.lists s []) t) (at (get_or l.initial.ends.items s []) t);
  rest : (s : ℕ) → l.service ≤ s → get_or l.ends.items s [] ≡ get_or l.initial.ends.items s [];
}

use Rattle.std.proofs.Common.{◌≡◌, ◌==◌, drop}
use Rattle.std.specs.List.{list_any}
use Rattle.sibling_chains.specs.Ends.{end_beside}
use Rattle.sibling_chains.proofs.fold.seek.Given as goal

abbrev pub invariant-loop-at : goal.invariant-loop-at
invariant-loop-at l = record {
  any : list_any (λ x. x == l.tag) l.tags ≡ list_any (λ x. x == l.tag) (drop l.at l.tags);
  end : end_beside l.tags l.chain_ends l.tag ≡ end_beside (drop l.at l.tags) (drop l.at l.chain_ends) l.tag;
}

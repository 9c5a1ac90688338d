use Rattle.std.proofs.Common.{sym, rules}
use Rattle.std.proofs.lemmas.List.Sorted.{IsNonDecreasingBy-from_sort_by_key, list_any-IsPermutation}
use Rattle.sibling_chains.specs.Following.{Pair}
use Rattle.parent_closure.proofs.search.by_child.Goals as goal

pub returns-clause-same : goal.returns-clause-same
returns-clause-same c = λ test. sym (list_any-IsPermutation test c.args.pairs.items c.sort_unstable_by_key.new.self.items c.sort_unstable_by_key.ensures.permutation)

pub returns-clause-sorted : goal.returns-clause-sorted
returns-clause-sorted c = IsNonDecreasingBy-from_sort_by_key (λ (p : Pair). p.0) _ c.sort_unstable_by_key.ensures.sorted (λ a r q k. search rules)

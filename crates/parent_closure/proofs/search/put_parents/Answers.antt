use Rattle.std.proofs.Common.{◌≡◌, ◌≢◌, ◌∙◌, ◌<◌, true, false, nat_lt, List, length, get_or, sym, arith, rules}
use Rattle.std.specs.List.Sorted.{IsPartitionPoint}
use Rattle.std.proofs.lemmas.Bool.{ltb-false, ltb-true, ne_eqb}
use Rattle.std.proofs.lemmas.List.Sorted.{IsPartitionPoint-from_clause, IsPartitionedBy-ltb}
use Rattle.sibling_chains.specs.Following.{Pair}
use Rattle.parent_closure.proofs.Searching.{no_pair, parents-none, parents-skip}
use Rattle.parent_closure.proofs.search.put_parents.Goals as goal

pub loop-at-init : goal.loop-at-init
loop-at-init c =
    let pairs : List Pair = c.args.pairs.now in
    let child = c.args.child in
    let first = c.partition_point-at.result in
    let point : IsPartitionPoint (λ (p : Pair). nat_lt p.0 child ≡ true) (λ p. nat_lt p.0 child ≡ false) pairs first =
    IsPartitionPoint-from_clause (λ (p : Pair). nat_lt p.0 child) pairs first c.partition_point-at.ensures.partitioned (IsPartitionedBy-ltb (λ (p : Pair). p.0) pairs child c.requires) (λ a r q k. search rules) in
    record {
      first = omega arith;
      found = parents-skip child first pairs c.args.found.now (λ k lt.
          let below = ltb-true (get_or pairs k no_pair).0 child (point.0 k no_pair (omega arith) lt) in
          ne_eqb (get_or pairs k no_pair).0 child (λ same. omega (arith, same, below)));
    }

pub returns-then-pair-child : goal.returns-then-pair-child
returns-then-pair-child c =
    let pairs : List Pair = c.args.pairs.now in
    let child = c.args.child in
    let first = c.partition_point-at.result in
    let at = c.loop-at.at in
    let point : IsPartitionPoint (λ (p : Pair). nat_lt p.0 child ≡ true) (λ p. nat_lt p.0 child ≡ false) pairs first =
    IsPartitionPoint-from_clause (λ (p : Pair). nat_lt p.0 child) pairs first c.partition_point-at.ensures.partitioned (IsPartitionedBy-ltb (λ (p : Pair). p.0) pairs child c.requires) (λ a r q k. search rules) in
    let within : at < length pairs = search rules in
    let other : (get_or pairs at no_pair).0 ≢ child = search rules in
    let above = ltb-false (get_or pairs at no_pair).0 child (point.1 at no_pair c.loop-at.invariant.first within) in
    sym (parents-none child at pairs c.loop-at.found (λ k le lt.
    let up = c.requires at k no_pair le lt in
    ne_eqb (get_or pairs k no_pair).0 child (λ same. other (omega (arith, same, up, above)))))
    ∙ c.loop-at.invariant.found

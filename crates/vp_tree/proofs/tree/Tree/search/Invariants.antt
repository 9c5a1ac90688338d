use Rattle.std.proofs.Common.{◌≡◌, ◌+◌, length, sum_by}
use Rattle.vp_tree.specs.Searching.{reads, reads_in}
use Rattle.vp_tree.proofs.Finding.{IsSearching}
use Rattle.vp_tree.proofs.tree.Tree.search.Given as goal

abbrev pub invariant-loop-at : goal.invariant-loop-at
invariant-loop-at g l = record {
  searching : IsSearching l.self.rows l.query l.within l.hits.items l.stack.items;
  counted : l.steps + sum_by (λ s. reads_in (length l.self.rows) l.self.rows l.query l.within s.0) l.stack.items
      ≡ l.fn.steps + reads l.self.rows l.query l.within;
}

abbrev pub decreases-loop-at : goal.decreases-loop-at
decreases-loop-at g l = sum_by (λ s. reads_in (length l.self.rows) l.self.rows l.query l.within s.0) l.stack.items

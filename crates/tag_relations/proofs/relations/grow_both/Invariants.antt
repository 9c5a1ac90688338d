use Rattle.std.proofs.Common.{◌≡◌, ◌-◌}
use Rattle.tag_relations.proofs.relations.grow_both.Given as goal

-- tags alone come, to both
abbrev pub invariant-loop-siblings : goal.invariant-loop-siblings
invariant-loop-siblings l = record {
  rows : l.siblings.rows ≡ l.fn.siblings.rows;
  ties : l.siblings.ties ≡ l.fn.siblings.ties;
  orders : l.siblings.orders ≡ l.fn.siblings.orders;
  parent_rows : l.parents.rows ≡ l.fn.parents.rows;
  parent_orders : l.parents.orders ≡ l.fn.parents.orders;
  same : l.siblings.tags ≡ l.parents.tags;
}

abbrev pub decreases-loop-siblings : goal.decreases-loop-siblings
decreases-loop-siblings l = l.fn.tags - l.siblings.tags

use Rattle.std.proofs.Common.{◌<◌, [], sym, refl}
use Rattle.std.proofs.lemmas.List.Elements.{All-nil}
use Rattle.sibling_chains.specs.declared.relation_row.RelationRow.{RelationRow}
use Rattle.sibling_chains.proofs.Refolding.{ideal-none}
use Rattle.sibling_chains.proofs.siblings.Siblings.new.Goals as goal

pub invariant_of-result : goal.invariant_of-result
invariant_of-result c =
    rw (c.new.ensures.rows, c.new-2.ensures.items, c.new-3.ensures.items) (record {
      one_each = refl;
      ideal = λ s t. sym (ideal-none [] t);
      services = All-nil (λ (row : RelationRow). row.service.0 < 0);
    })

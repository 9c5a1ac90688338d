use Rattle.std.proofs.Common.{◌≡◌, ◌+◌, ◌-◌, length}
use Rattle.std.specs.Option.{option_map_or}
use Rattle.vp_tree.specs.Placing.{way}
use Rattle.vp_tree.proofs.Growing.{IsGrowing}
use Rattle.vp_tree.proofs.Ways.{left_way}
use Rattle.vp_tree.proofs.placing.grow_way.Given as goal

abbrev pub invariant-loop-next : goal.invariant-loop-next
invariant-loop-next g l = record {
  growing : IsGrowing l.fn.table.rows l.number l.word l.table.rows l.next;
  spare : l.table.spare ≡ l.fn.table.spare;
  counted : l.steps + length (left_way l.fn.table.rows l.word l.next) ≡ l.fn.steps + length (way l.fn.table.rows l.word);
}

abbrev pub decreases-loop-next : goal.decreases-loop-next
decreases-loop-next g l = option_map_or (λ c. length l.fn.table.rows - c.0) l.next 0

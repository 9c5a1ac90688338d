use Rattle.std.proofs.Common.{◌≡◌, ◌+◌, ◌*◌, ◌-◌, ◌<◌, ◌≤◌, length, Some}
use Rattle.std.specs.Option.{option_map_or}
use Rattle.media_types.specs.declared.numbers.HashNo.{HashNo}
use Rattle.vp_tree.specs.Placing.{way}
use Rattle.vp_tree.proofs.Marks.{highest}
use Rattle.vp_tree.proofs.Ways.{left_way}
use Rattle.vp_tree.proofs.marking.find_lopsided.Given as goal

abbrev pub invariant-loop-next : goal.invariant-loop-next
invariant-loop-next g l = record {
  inside : (c : HashNo) → l.next ≡ Some c → c.0 < length l.table.rows;
  left : highest l.table.rows (left_way l.table.rows l.word l.next) ≡ highest l.table.rows (way l.table.rows l.word);
  counted : l.steps + 4 * length (left_way l.table.rows l.word l.next) ≤ l.fn.steps + 4 * length (way l.table.rows l.word);
}

abbrev pub decreases-loop-next : goal.decreases-loop-next
decreases-loop-next g l = option_map_or (λ c. length l.table.rows - c.0) l.next 0

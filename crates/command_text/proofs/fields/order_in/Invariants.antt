use Rattle.command_text.proofs.OrderLaws.{IsOrderTo}
use Rattle.command_text.proofs.fields.order_in.Given as goal

abbrev pub invariant-loop-item : goal.invariant-loop-item
invariant-loop-item l = IsOrderTo l.items l.item-index l.services

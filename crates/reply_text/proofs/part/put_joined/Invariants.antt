use Rattle.std.proofs.Common.{drop}
use Rattle.reply_text.specs.Putting.{Outcome}
use Rattle.reply_text.specs.Parts.{joined_text}
use Rattle.reply_text.proofs.Joining.{rest_text}
use Rattle.reply_text.proofs.part.put_joined.Given as goal

-- what is put from here on completes the items
abbrev pub invariant-loop-item : goal.invariant-loop-item
invariant-loop-item g l =
    (out : g.row.O.Denot) (sink : g.row.W.Denot) (result : Outcome)
    → g.O.Out.Puts l.out l.sink out sink (rest_text l.separator g.T.Spelled.text l.before (drop l.item-index l.items)) result
    → g.O.Out.Puts l.fn.out l.fn.sink out sink (joined_text l.separator g.T.Spelled.text l.items) result

use Rattle.std.proofs.Common.{map}
use Rattle.serde_json.specs.Find.{as_str}
use Rattle.command_text.proofs.EachLaws.{IsReadTo}
use Rattle.command_text.proofs.fields.texts_in.Given as goal

abbrev pub invariant-loop-item : goal.invariant-loop-item
invariant-loop-item l = IsReadTo as_str l.items l.item-index (map (λ text. text.now) l.texts)

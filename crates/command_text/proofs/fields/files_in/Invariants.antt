use Rattle.command_text.specs.Forms.{file_in}
use Rattle.command_text.proofs.EachLaws.{IsReadTo}
use Rattle.command_text.proofs.fields.files_in.Given as goal

abbrev pub invariant-loop-item : goal.invariant-loop-item
invariant-loop-item l = IsReadTo file_in l.items l.item-index l.files

-- The fields that the code holds, as what they say.
use Rattle.std.specs.Prelude.{ℕ, List}
use Rattle.std.specs.Borrow.{Bor}
use Rattle.reply_text.specs.declared.part.Part.{Part}
use Rattle.reply_text.specs.declared.part.Part.TheVariants as parts
use Rattle.reply_text.specs.Parts as said

abbrev pub part_of : Part → said.Part
part_of (parts.Number n) = said.a_number n
part_of (parts.Flag b) = said.a_flag b
part_of (parts.Text text) = said.a_text text.now
part_of (parts.Tags listed) = said.tags listed.now
part_of (parts.Files listed) = said.files listed.now
part_of (parts.Pairs listed) = said.pairs listed.now

abbrev pub field_of : Bor (List ℕ) × Part → said.Field
field_of field = (field.0.now, part_of field.1)

-- The open desks of the duplicate filter. They aren't kept, and no command opens one yet.
use Rattle.std.specs.Prelude.{List, []}
use Rattle.media_types.specs.declared.numbers.DeskNo.{DeskNo}

abbrev pub Desks : Type 0
Desks = List DeskNo

abbrev pub no_desks : Desks
no_desks = []

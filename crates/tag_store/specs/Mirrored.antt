-- Mappings that are kept in two orders.
use Rattle.std.specs.Prelude.{◌≡◌, ℕ, List, All}
use Rattle.std.specs.Map.{keys_of}
use Rattle.tag_store.specs.Lasts.{IsShort}
use Rattle.tag_store.specs.Mapped.{Ascend, Row, state_of}

-- The mappings ascend by service, tag and file, the others by service, file and tag, and both say the same of
-- every service, tag and file.
pub record AreMirrored (rows others : List Row) : Type 0 where
  pub sorted : Ascend rows
  pub others_sorted : Ascend others
  pub short : All IsShort (keys_of rows)
  pub others_short : All IsShort (keys_of others)
  pub same : (s t f : ℕ) → state_of others s f t ≡ state_of rows s t f

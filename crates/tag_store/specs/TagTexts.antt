-- The texts of the tags of a library.
use Rattle.std.specs.Prelude.{ℕ, List, All}
use Rattle.tag_types.specs.Cleaning.{IsTag}
use Rattle.tag_store.specs.Numbering.{AreNumbered}

-- they are numbered, and each is a tag
pub record AreTags (texts : List (List ℕ)) : Type 0 where
  pub numbered : AreNumbered texts
  pub tags : All IsTag texts

-- What contracts see of the siblings and the parents of all services together.
use Rattle.std.specs.Prelude.{◌≡◌, ℕ, map, length}
use Rattle.parent_closure.specs.Ancestors.{Relations}
use Rattle.parent_closure.specs.Implied.{relations_of}
use Rattle.parent_closure.specs.Kept.{Kept}
use Rattle.parent_closure.specs.Kept.{IsSame as AreSameParents}
use Rattle.sibling_chains.specs.Known.{Known}
use Rattle.sibling_chains.specs.Known.{IsSame as AreSameSiblings}
use Rattle.sibling_chains.specs.Recorded.{pair_of}

pub record Related : Type 0 where
  pub siblings : Known
  pub parents : Kept

-- the same but for the room
pub record IsSame (new old : Related) : Type 0 where
  pub siblings : AreSameSiblings new.siblings old.siblings
  pub parents : AreSameParents new.parents old.parents

-- what is known of the tags of a service
abbrev pub relations_at : Related → ℕ → Relations
relations_at v s = relations_of v.parents v.siblings s

-- each parent pair ever recorded ties its tags together, and both are of the same tags and services
pub record AreTied (v : Related) : Type 0 where
  pub ties : v.siblings.ties ≡ map pair_of v.parents.rows
  pub tags : v.siblings.tags ≡ v.parents.tags
  pub services : length v.siblings.orders ≡ length v.parents.orders

-- How the nodes lie in two tables.
use Rattle.std.specs.Prelude.{◌<◌, List, [], ◌∷◌}
use Rattle.std.specs.Option.{ForSome}
use Rattle.vp_tree.specs.declared.node.NodeView.{NodeView}
use Rattle.vp_tree.specs.declared.node.Node.{Node}
use Rattle.vp_tree.specs.declared.node.Counts.{Counts}

abbrev pub seen : Node → Counts → NodeView
seen n c = record {
  word = n.word;
  radius = n.radius;
  inner = n.inner;
  outer = n.outer;
  below = c.below;
  built = c.built;
}

-- the node without its counts
abbrev pub uncounted : NodeView → NodeView
uncounted v = record v { below = 0; built = 0 }

-- what a search reads of a node
abbrev pub searched : NodeView → Node
searched v = record { word = v.word; inner = v.inner; outer = v.outer; radius = v.radius }

abbrev pub joined : List Node → List Counts → List NodeView
joined [] cs = []
joined (n ∷ ns) [] = []
joined (n ∷ ns) (c ∷ cs) = seen n c ∷ joined ns cs

-- the node leaves the values free that stand for none
pub record IsStorable (v : NodeView) : Type 0 where
  pub inner : ForSome v.inner (λ c. c.0 < 0xffff_ffff)
  pub outer : ForSome v.outer (λ c. c.0 < 0xffff_ffff)
  pub radius : ForSome v.radius (λ r. r < 0xff)

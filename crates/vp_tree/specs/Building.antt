-- How points are built: the least number is the point of a node, and the others are parted by their
-- distance from it.
use Rattle.std.specs.Prelude.{◌≡◌, ◌<◌, ◌+◌, ◌*◌, ◌==◌, All, ℕ, zero, suc, nat_le, nat_lt, Bool, if◌then◌else◌, List, [], ◌∷◌, ◌++◌, map, filter, length, Option, Some, None}
use Rattle.std.specs.List.{list_any, range_with_len}
use Rattle.media_types.specs.Distance.{distance_of}
use Rattle.media_types.specs.declared.numbers.HashNo.{HashNo}
use Rattle.vp_tree.specs.declared.building.Point.{Point}
use Rattle.vp_tree.specs.declared.node.NodeView.{NodeView}
use Rattle.vp_tree.specs.declared.plan.BuildPlan.{BuildPlan}
use Rattle.vp_tree.specs.Nodes.{node_at, has_node, times}

abbrev pub point_at : List NodeView → ℕ → Point
point_at ns k = record { number = record { 0 = k }; word = (node_at ns k).word }

-- the points of the branch at a node, ascending by number
abbrev pub points : List NodeView → ℕ → List Point
points ns top = map (point_at ns) (filter (has_node ns top) (range_with_len 0 (length ns)))

-- the points that lie within a radius of a point, and those that lie beyond it
abbrev pub points_within : Point → List Point → ℕ → List Point
points_within p qs r = filter (λ q. nat_le (distance_of q.word p.word) r) qs

abbrev pub points_beyond : Point → List Point → ℕ → List Point
points_beyond p qs r = filter (λ q. nat_lt r (distance_of q.word p.word)) qs

-- at least half of the points lie within the radius
abbrev pub has_half : Point → List Point → ℕ → Bool
has_half p qs r = nat_le (length qs) (2 * length (points_within p qs r))

-- the least such radius from r on, of at most so many
abbrev pub least_from : ℕ → Point → List Point → ℕ → ℕ
least_from zero p qs r = r
least_from (suc more) p qs r = if has_half p qs r then r else least_from more p qs (r + 1)

-- the least radius within which at least half of the points lie; all lie within 64
unfoldable pub least_radius : Point → List Point → ℕ
least_radius p qs = least_from 64 p qs 0

-- the inner and the outer part of the points
abbrev pub inner_part : Point → List Point → List Point
inner_part p qs = points_within p qs (least_radius p qs)

abbrev pub outer_part : Point → List Point → List Point
outer_part p qs = points_beyond p qs (least_radius p qs)

-- a point alone has no radius
abbrev pub radius_over : Point → List Point → Option ℕ
radius_over p [] = None
radius_over p (q ∷ qs) = Some (least_radius p (q ∷ qs))

abbrev pub first_number : List Point → Option HashNo
first_number [] = None
first_number (p ∷ ps) = Some p.number

-- the node of a point that is built over others
abbrev pub built_node : Point → List Point → NodeView
built_node p qs = record {
  word = p.word;
  radius = radius_over p qs;
  inner = first_number (inner_part p qs);
  outer = first_number (outer_part p qs);
  below = length qs;
  built = length qs;
}

-- the nodes of points that are built, each with its number: of at most so many levels
abbrev pub built_in : ℕ → List Point → List (HashNo × NodeView)
built_in zero ps = []
built_in (suc levels) [] = []
built_in (suc levels) (p ∷ qs) =
    (p.number, built_node p qs) ∷ (built_in levels (inner_part p qs) ++ built_in levels (outer_part p qs))

-- the same of all levels: there are no more than points
abbrev pub built_of : List Point → List (HashNo × NodeView)
built_of ps = built_in (length ps) ps

-- a node of this number is built
abbrev pub is_built : List (HashNo × NodeView) → ℕ → Bool
is_built nodes k = list_any (λ b. b.0.0 == k) nodes

-- the node of the first point, and the two parts that are left to be built, the inner one last
abbrev pub first_built : List Point → List (HashNo × NodeView)
first_built [] = []
first_built (p ∷ qs) = (p.number, built_node p qs) ∷ []

abbrev pub left_parts : List Point → List (List Point)
left_parts [] = []
left_parts (p ∷ qs) = outer_part p qs ∷ inner_part p qs ∷ []

-- the plan has the nodes of a branch of this tree, built
pub record IsPlanFor (ns : List NodeView) (plan : BuildPlan) : Type 0 where
  pub top : plan.top.0 < length ns
  pub nodes : plan.nodes.items ≡ built_of (points ns plan.top.0)

-- the branch at a node is built anew, and each node elsewhere stays as it was
pub record IsRebuilt (old new : List NodeView) (top : ℕ) : Type 0 where
  pub len : length new ≡ length old
  pub built : All (λ b. node_at new b.0.0 ≡ b.1) (built_of (points old top))
  pub other : (k : ℕ) → k < length old → times old top k ≡ 0 → node_at new k ≡ node_at old k

-- the tree is the one that building makes of all its points
pub record IsBuiltWhole (ns : List NodeView) : Type 0 where
  pub built : All (λ b. node_at ns b.0.0 ≡ b.1) (built_of (map (point_at ns) (range_with_len 0 (length ns))))

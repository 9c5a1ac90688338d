use Rattle.std.proofs.Common.{length, ap, arith}
use Rattle.vp_tree.proofs.Collecting.{points-few}
use Rattle.vp_tree.proofs.tree.Tree.plan_build.Goals as goal

pub build_nodes-requires : goal.build_nodes-requires
build_nodes-requires g c =
    omega (
      arith,
      points-few c.self.inside.table.rows c.args.top.0 c.self.invariant (omega (arith, c.requires, ap (λ t. length t.rows) c.self.view_is)),
      ap length c.in_ok-points.ensures.points,
    )

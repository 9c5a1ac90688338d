use Rattle.std.proofs.Common.{sym, ap, subst, ◌∙◌}
use Rattle.spare_tables.specs.Firsts.{AscendFrom, of_first}
use Rattle.spare_tables.specs.FirstLaws.{AscendFrom-from, of_first-from}
use Rattle.spare_tables.proofs.first_walk.KeyMap+tuple2+u32+u32+V.walk_first.Goals as goal

pub new-requires : goal.new-requires
new-requires g c =
    subst (AscendFrom c.args.first) (sym c.walk_from.ensures.rows) (AscendFrom-from c.args.first c.args.self.now.rows c.walk_from.ensures.sorted)

pub returns-clause-rows : goal.returns-clause-rows
returns-clause-rows g c =
    c.new.ensures ∙ ap (of_first c.args.first) c.walk_from.ensures.rows ∙ of_first-from c.args.first c.args.self.now.rows

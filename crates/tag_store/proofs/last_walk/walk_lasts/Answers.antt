use Rattle.std.proofs.Common.{ap, sym, subst, ◌∙◌}
use Rattle.tag_store.specs.Lasts.{AscendFrom, lasts}
use Rattle.tag_store.proofs.LastRows.{AscendFrom-from, lasts-from}
use Rattle.tag_store.proofs.last_walk.walk_lasts.Goals as goal

pub invariant_of-result : goal.invariant_of-result
invariant_of-result g c =
    subst (AscendFrom c.args.first c.args.second) (sym c.walk_from.ensures.rows) (AscendFrom-from c.args.first c.args.second c.args.from c.args.map.now.rows c.walk_from.ensures.sorted)

pub returns-clause-rows : goal.returns-clause-rows
returns-clause-rows g c =
    ap (lasts c.args.first c.args.second) c.walk_from.ensures.rows ∙ lasts-from c.args.first c.args.second c.args.from c.args.map.now.rows c.walk_from.ensures.sorted

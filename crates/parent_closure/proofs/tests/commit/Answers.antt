use Rattle.std.proofs.Common.{◌<◌, arith, rules}
use Rattle.tag_types.specs.declared.limits.TheConstants.{MAX_RELATIONS}
use Rattle.parent_closure.specs.CountLaws.{one-more}
use Rattle.parent_closure.proofs.tests.commit.Goals as goal

pub commit-requires-clause-few : goal.commit-requires-clause-few
commit-requires-clause-few g c =
    let less : c.rows_len-rows.result < MAX_RELATIONS = search rules in
    omega (arith, one-more c.args.plan c.args.parents.now, c.rows_len-rows.ensures.rows, less)

use Rattle.std.proofs.Common.{arith, rules}
use Rattle.std.proofs.lemmas.Grind.{common_steps}
use Rattle.relation_groups.specs.NamedLaws.{reading-named}
use Rattle.potential_pairs.proofs.names.may_pair.Goals as goal

pub returns-then-class_of : goal.returns-then-class_of
returns-then-class_of c = let agree = (reading-named c.args.groups.now).agree c.args.j.0 c.args.k.0 in first_of (search rules, grind (arith, common_steps))

pub returns-else-class_of : goal.returns-else-class_of
returns-else-class_of c = let agree = (reading-named c.args.groups.now).agree c.args.j.0 c.args.k.0 in first_of (search rules, grind (arith, common_steps))

use Rattle.std.proofs.Common.{◌≡◌, IfOk, refl, arith}
use Rattle.std.specs.List.{range_with_len}
use Rattle.std.proofs.lemmas.Iterator.{items_from_collect, YieldsList-from_range}
use Rattle.tag_relations.proofs.limit.numbers_below.Goals as goal

pub returns : goal.returns
returns c =
    let all : IfOk c.collect.result (λ v. v.items ≡ range_with_len 0 c.args.end) =
    items_from_collect _ c.collect.ensures.ran (YieldsList-from_range 0 c.args.end c.args.end refl (omega arith)) in
    rw c.in_ok-collect.was at all

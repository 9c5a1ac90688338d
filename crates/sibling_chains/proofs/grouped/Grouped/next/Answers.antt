use Rattle.sibling_chains.proofs.GroupLists.{next-from}
use Rattle.sibling_chains.proofs.grouped.Grouped.next.Goals as goal

pub returns-clause-next : goal.returns-clause-next
returns-clause-next g c =
    let labels = c.args.self.now.labels in
    let pairs = c.self.inside.members.rows in
    let label = c.args.label in
    let least = c.pair_laws.ensures.second pairs label c.args.from _ c.range_from-found.ensures.least in
    rw (c.second_in.ensures, ← c.self.view_is) (next-from c.self.inside.labels.items pairs label c.args.from _ c.self.invariant least)

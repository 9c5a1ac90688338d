use Rattle.std.proofs.Common.{◌≡◌, ◌<◌, ◌↔◌, ◌⊎◌, ℕ, List, Contains, length, subst, rules}
use Rattle.sibling_chains.specs.Following.{Pair}
use Rattle.sibling_chains.proofs.GroupLists.{push-grouped}
use Rattle.sibling_chains.proofs.grouped.Grouped.push.Goals as goal

pub invariant_of-self : goal.invariant_of-self
invariant_of-self c =
    let s = c.self.inside in
    let labels : List ℕ = s.labels.items in
    let few : length labels < 4294967294 = rw (← c.self.view_is) at c.requires.few in
    let number : c.len-number.result ≡ length labels = search rules in
    let members : (p : Pair) → Contains c.insert.new.self.rows p ↔ (Contains s.members.rows p ⊎ (p ≡ (c.args.label, length labels))) =
    subst (λ n. (p : Pair) → Contains c.insert.new.self.rows p ↔ (Contains s.members.rows p ⊎ (p ≡ (c.args.label, n)))) number c.insert.ensures.members in
    rw c.push_reserved.ensures.items (push-grouped labels s.members.rows c.insert.new.self.rows c.args.label c.self.invariant few members)

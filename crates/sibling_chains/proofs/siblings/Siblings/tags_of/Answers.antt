use Rattle.std.proofs.Common.{◌≡◌, ◌==◌, ℕ, Bool, None, Some, true, arith}
use Rattle.sibling_chains.specs.Grouping.{IsNext}
use Rattle.sibling_chains.specs.Known.{is_behind, label_in}
use Rattle.sibling_chains.proofs.Nexts.{next-none, next-some}
use Rattle.sibling_chains.proofs.siblings.Siblings.tags_of.Goals as goal

pub returns-in-Some-clause-next : goal.returns-in-Some-clause-next
returns-in-Some-clause-next g c =
    let v = c.args.self.now in
    let test : ℕ → Bool = λ t. label_in v t == c.args.label.0 in
    let least : IsNext v.tags test c.start_after.result (Some c.in-Some.tag) = rw (← c.self.view_is) c.in-Some.ensures.next in
    let few = c.in-Some.ensures.few in
    let behind : is_behind c.args.after c.in-Some.tag ≡ true =
    c.start_after.ensures.behind c.in-Some.tag (c.in-Some.ensures.next.1) (omega (arith, few, c.in-Some.ensures.next.0)) in
    next-some v.tags c.start_after.result c.args.after test c.start_after.ensures.before c.in-Some.tag behind least

pub returns-in-None-clause-next : goal.returns-in-None-clause-next
returns-in-None-clause-next g c =
    let v = c.args.self.now in
    let test : ℕ → Bool = λ t. label_in v t == c.args.label.0 in
    let least : IsNext v.tags test c.start_after.result None = rw (← c.self.view_is) c.in-None.ensures.next in
    next-none v.tags c.start_after.result c.args.after test c.start_after.ensures.before least

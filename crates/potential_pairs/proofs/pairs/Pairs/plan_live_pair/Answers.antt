use Rattle.std.proofs.Common.{◌≡◌, ◌∙◌, ◌==◌, true, false, Some, cond, not, sym, ap, arith}
use Rattle.std.proofs.lemmas.Bool.{not-false, not-true}
use Rattle.relation_groups.specs.Reading.{relations_in}
use Rattle.relation_groups.specs.Relations.{Relations}
use Rattle.potential_pairs.specs.Naming.{live_name, weight}
use Rattle.potential_pairs.specs.Planning.{with_live}
use Rattle.potential_pairs.specs.Potential.{is_live}
use Rattle.potential_pairs.proofs.Alive.{name_before, name_less, name_more, name_quiet}
use Rattle.potential_pairs.proofs.Clauses.{on_ok}
use Rattle.potential_pairs.proofs.pairs.Pairs.plan_live_pair.Goals as goal

pub returns-then-is_gone-clause-tallies : goal.returns-then-is_gone-clause-tallies
returns-then-is_gone-clause-tallies g c =
    let R : Relations = relations_in c.args.groups.now in
    let gone = c.args.self.now.rows.gone in
    let f = c.args.near.0.0 in
    let h = c.args.near.1.0 in
    let file = c.args.file in
    let live = c.args.live in
    let sorted = c.in_order.ensures.gone in
    let dead : is_live gone (cond (f == file.0) h f) ≡ false = ap (is_live gone) (sym c.other_file.ensures) ∙ not-true (is_live gone c.other_file.result.0) (sym c.is_gone.ensures.gone ∙ c.if-is_gone.true) in
    let quiet = name_quiet R gone file sorted f h c.requires.lower c.requires.of_file dead in
    let before = name_before R gone file sorted f h c.requires.lower c.requires.of_file live c.requires.other in
    λ q d.
    let new = ap (λ own. weight own c.args.near.2 q d) (quiet live) in
    let old = ap (λ own. weight own c.args.near.2 q d) (before ∙ quiet (not live)) in
    omega (arith, new, old)

pub returns-then-live-clause-tallies : goal.returns-then-live-clause-tallies
returns-then-live-clause-tallies g c =
    let R : Relations = relations_in c.args.groups.now in
    let gone = c.args.self.now.rows.gone in
    let f = c.args.near.0.0 in
    let h = c.args.near.1.0 in
    let file = c.args.file in
    let sorted = c.in_order.ensures.gone in
    let live : is_live gone (cond (f == file.0) h f) ≡ true = ap (is_live gone) (sym c.other_file.ensures) ∙ not-false (is_live gone c.other_file.result.0) (sym c.is_gone.ensures.gone ∙ c.if-is_gone.false) in
    let more = name_more R gone file sorted f h c.requires.lower c.requires.of_file live in
    let less = name_less R gone file sorted f h c.requires.lower c.requires.of_file in
    let before = name_before R gone file sorted f h c.requires.lower c.requires.of_file c.args.live c.requires.other in
    let will = ap (λ live. live_name R (with_live (Some (file, live)) gone) (f, h)) c.if-live.true ∙ more ∙ sym c.name_of-name.ensures.name in
    let was = before ∙ ap (λ live. live_name R (with_live (Some (file, not live)) gone) (f, h)) c.if-live.true ∙ less in
    on_ok c.plan_more.result (λ counts q d.
    let new = ap (λ own. weight own c.args.near.2 q d) will in
    let old = ap (λ own. weight own c.args.near.2 q d) was in
    omega (arith, new, old, counts q d)) c.plan_more.ensures.tallies

pub returns-else-live-clause-tallies : goal.returns-else-live-clause-tallies
returns-else-live-clause-tallies g c =
    let R : Relations = relations_in c.args.groups.now in
    let gone = c.args.self.now.rows.gone in
    let f = c.args.near.0.0 in
    let h = c.args.near.1.0 in
    let file = c.args.file in
    let sorted = c.in_order.ensures.gone in
    let live : is_live gone (cond (f == file.0) h f) ≡ true = ap (is_live gone) (sym c.other_file.ensures) ∙ not-false (is_live gone c.other_file.result.0) (sym c.is_gone.ensures.gone ∙ c.if-is_gone.false) in
    let more = name_more R gone file sorted f h c.requires.lower c.requires.of_file live in
    let less = name_less R gone file sorted f h c.requires.lower c.requires.of_file in
    let before = name_before R gone file sorted f h c.requires.lower c.requires.of_file c.args.live c.requires.other in
    let will = ap (λ live. live_name R (with_live (Some (file, live)) gone) (f, h)) c.if-live.false ∙ less in
    let was = before ∙ ap (λ live. live_name R (with_live (Some (file, not live)) gone) (f, h)) c.if-live.false ∙ more ∙ sym c.name_of-name.ensures.name in
    on_ok c.plan_less.result (λ counts q d.
    let new = ap (λ own. weight own c.args.near.2 q d) will in
    let old = ap (λ own. weight own c.args.near.2 q d) was in
    omega (arith, new, old, counts q d)) c.plan_less.ensures.tallies

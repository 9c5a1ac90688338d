use Rattle.std.proofs.Common.{◌≡◌, ◌∙◌, ◌==◌, ◌&&◌, not, true, ℕ, List, map, sym, ap}
use Rattle.std.proofs.lemmas.Bool.{and_parts, eqb-true, eq-eqb, false≢true, not-true}
use Rattle.sibling_chains.specs.Ends.{end_beside, led_on}
use Rattle.sibling_chains.proofs.Beside.{beside-left, beside-taken}
use Rattle.sibling_chains.proofs.fold.meet.Goals as goal

pub returns-then-is_taken-clause-met : goal.returns-then-is_taken-clause-met
returns-then-is_taken-clause-met c =
    let tags : List ℕ = c.args.tags.now in
    let list : List ℕ = c.args.chain_ends.now.items in
    let to : c.end_in-to.result ≡ end_beside tags list c.args.good = c.end_in-to.ensures ∙ ap (λ l. end_beside tags l c.args.good) c.as_slice.ensures.value in
    let own : c.end_in-own.result ≡ end_beside tags list c.args.bad = c.end_in-own.ensures ∙ ap (λ l. end_beside tags l c.args.bad) c.as_slice-2.ensures.value in
    let both : (c.end_in-own.result == c.args.bad && not (c.end_in-to.result == c.args.bad)) ≡ true = sym c.is_taken.ensures ∙ c.if-is_taken.true in
    let parts = and_parts (c.end_in-own.result == c.args.bad) (not (c.end_in-to.result == c.args.bad)) both in
    ap (end_beside tags) c.lead_on.ensures ∙ ap (λ e. end_beside tags (map (led_on c.args.bad e) list)) to
    ∙ beside-taken tags list c.args.bad c.args.good c.requires.len c.requires.bad_there
    (sym own ∙ eqb-true c.end_in-own.result c.args.bad parts.0)
    (λ e. false≢true (sym (not-true (c.end_in-to.result == c.args.bad) parts.1) ∙ eq-eqb c.end_in-to.result c.args.bad (to ∙ e)))

pub returns-else-is_taken-clause-met : goal.returns-else-is_taken-clause-met
returns-else-is_taken-clause-met c =
    let tags : List ℕ = c.args.tags.now in
    let list : List ℕ = c.args.chain_ends.now.items in
    let to : c.end_in-to.result ≡ end_beside tags list c.args.good = c.end_in-to.ensures ∙ ap (λ l. end_beside tags l c.args.good) c.as_slice.ensures.value in
    let own : c.end_in-own.result ≡ end_beside tags list c.args.bad = c.end_in-own.ensures ∙ ap (λ l. end_beside tags l c.args.bad) c.as_slice-2.ensures.value in
    beside-left tags list c.args.bad c.args.good c.end_in-own.result c.end_in-to.result own to (sym c.is_taken.ensures ∙ c.if-is_taken.false)

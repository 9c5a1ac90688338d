use Rattle.std.proofs.Common.{◌≡◌, ℕ, None, nat_le, slice_get, sym, ap, ◌∙◌, rules}
use Rattle.tag_types.specs.declared.map_state.MapState.{MapState}
use Rattle.tag_store.specs.Lasts.{is_behind, lasts}
use Rattle.tag_store.proofs.LastRows.{find-alike, find-none, first-filter}
use Rattle.tag_store.proofs.last_walk.first_behind.Goals as goal

pub returns-in_err-from-clause-first : goal.returns-in_err-from-clause-first
returns-in_err-from-clause-first g c =
    let none : c.from_residual.result ≡ None = search rules in
    none ∙ sym (find-none (is_behind c.args.after) c.in_err-from.ensures.none c.args.first c.args.second c.args.map.now.rows c.requires.short)

pub returns-clause-first : goal.returns-clause-first
returns-clause-first g c =
    let list = lasts c.args.first c.args.second c.args.map.now.rows in
    let from = c.in_ok-from.from in
    c.next.ensures.first ∙ ap (λ rows. slice_get rows 0) c.walk_lasts.ensures.rows
    ∙ first-filter (λ (it : ℕ × MapState). nat_le from it.0) list
    ∙ find-alike (λ (it : ℕ × MapState). nat_le from it.0) (λ (it : ℕ × MapState). is_behind c.args.after it.0) (λ it. c.in_ok-from.ensures.some it.0) list

use Rattle.std.proofs.Common.{◌≡◌, ◌∙◌, ◌&&◌, false, None, cond, sym, ap}
use Rattle.std.proofs.lemmas.Bool.{and_left, and_right, not-false, not-true}
use Rattle.relation_groups.specs.Reading.{relations_in}
use Rattle.potential_pairs.specs.Naming.{live_name, name_of}
use Rattle.potential_pairs.specs.Potential.{is_live}
use Rattle.potential_pairs.proofs.pairs.Pairs.name_of_live.Goals as goal
use Rattle.potential_pairs.proofs.pairs.Pairs.name_of_live.Goals.{then-is_gone-via-then-is_gone, then-is_gone-via-else-is_gone+then-is_gone-2}

pub returns-then-is_gone-clause-name : goal.returns-then-is_gone-clause-name
unfolding live_name
returns-then-is_gone-clause-name g c =
    let gone = c.args.self.now.rows.gone in
    let f = c.args.f.0 in
    let h = c.args.g.0 in
    let dead : is_live gone f && is_live gone h ≡ false = elim c.then-is_gone.branch [
      | then-is_gone-via-then-is_gone w ↦ and_left (is_live gone f) (is_live gone h) (not-true (is_live gone f) (sym c.is_gone.ensures.gone ∙ w.if-is_gone.true))
      | then-is_gone-via-else-is_gone+then-is_gone-2 w ↦ and_right (is_live gone f) (is_live gone h) (not-true (is_live gone h) (sym w.is_gone-else-is_gone.ensures.gone ∙ w.if-is_gone-2.true))
    ] in
    sym (ap (λ live. cond live (name_of (relations_in c.args.groups.now) f h) None) dead)

pub returns-clause-name : goal.returns-clause-name
unfolding live_name
returns-clause-name g c =
    let gone = c.args.self.now.rows.gone in
    let f_live = not-false (is_live gone c.args.f.0) (sym c.is_gone.ensures.gone ∙ c.if-is_gone.false) in
    let g_live = not-false (is_live gone c.args.g.0) (sym c.is_gone-else-is_gone.ensures.gone ∙ c.if-is_gone-2.false) in
    rw (f_live, g_live) c.name_of.ensures.name

use Rattle.std.proofs.Common.{◌≡◌, ◌∙◌, ◌+◌, ◌++◌, ◌∷◌, [], ℕ, List, length, append_assoc, get_or, ap, subst, sym, arith, rules}
use Rattle.std.proofs.lemmas.List.{length-map}
use Rattle.sibling_chains.specs.Clustered.{rows_but}
use Rattle.sibling_chains.specs.Recorded.{no_row}
use Rattle.sibling_chains.specs.declared.relation_row.RelationRow.{RelationRow}
use Rattle.parent_closure.specs.Kept.{Kept, rows_of}
use Rattle.parent_closure.proofs.Places.{but-labels, but-length, places-few, places-next, places_below, rows-ended, rows-next, rows_before}
use Rattle.parent_closure.proofs.parents.Parents.put_rows.Goals as goal

pub loop-number-preserved : goal.loop-number-preserved
loop-number-preserved g c =
    let inside = c.self.inside in
    let rows : List RelationRow = inside.rows.rows in
    let child = c.args.child in
    let gone = c.args.gone in
    let number = c.in-Some.number in
    let from = c.loop-number.from in
    let len : length inside.children.labels ≡ length rows = ap (λ (l : List ℕ). length l) c.self.invariant.children ∙ length-map rows (λ row. row.first.0) in
    let view : rows ≡ c.args.self.now.rows = ap (λ (v : Kept). v.rows) c.self.view_is in
    let size = ap (λ (l : List RelationRow). length l) view in
    let one = subst (λ (l : List RelationRow). places_below l child (number + 1) ≡ places_below l child from + 1) view
    (places-next rows inside.children.labels child from number c.self.invariant.children len c.in-Some.ensures.next) in
    let next = subst (λ (l : List RelationRow). rows_before (rows_but gone l) child (number + 1) ≡ rows_before (rows_but gone l) child from ++ get_or (rows_but gone l) number no_row ∷ []) view
    (rows-next (rows_but gone rows) inside.children.labels child from number (c.self.invariant.children ∙ sym (but-labels gone rows)) (len ∙ sym (but-length gone rows)) c.in-Some.ensures.next) in
    record {
      within = omega (arith, c.in-Some.ensures.next.0, len, size);
      reads = omega (arith, one, c.loop-number.invariant.reads, c.next.ensures.steps, c.row_but.ensures.steps);
      rows =
          c.in_ok-push.ensures.items
          ∙ ap (λ (l : List RelationRow). l ++ c.row_but.result ∷ []) c.loop-number.invariant.rows
          ∙ append_assoc c.args.rows.now.items (rows_before (rows_but gone c.args.self.now.rows) child from) (c.row_but.result ∷ [])
          ∙ ap (λ (row : RelationRow). c.args.rows.now.items ++ (rows_before (rows_but gone c.args.self.now.rows) child from ++ row ∷ [])) c.row_but.ensures.row
          ∙ ap (λ (l : List RelationRow). c.args.rows.now.items ++ l) (sym next);
    }

pub returns-in_err-push-clause-reads : goal.returns-in_err-push-clause-reads
returns-in_err-push-clause-reads g c =
    let inside = c.self.inside in
    let rows : List RelationRow = inside.rows.rows in
    let child = c.args.child in
    let number = c.in-Some.number in
    let len : length inside.children.labels ≡ length rows = ap (λ (l : List ℕ). length l) c.self.invariant.children ∙ length-map rows (λ row. row.first.0) in
    let view : rows ≡ c.args.self.now.rows = ap (λ (v : Kept). v.rows) c.self.view_is in
    let size = ap (λ (l : List RelationRow). length l) view in
    let one = subst (λ (l : List RelationRow). places_below l child (number + 1) ≡ places_below l child c.loop-number.from + 1) view
    (places-next rows inside.children.labels child c.loop-number.from number c.self.invariant.children len c.in-Some.ensures.next) in
    let few = places-few c.args.self.now.rows child (number + 1) (omega (arith, c.in-Some.ensures.next.0, len, size)) in
    omega (arith, one, few, c.loop-number.invariant.reads, c.next.ensures.steps, c.row_but.ensures.steps)

pub returns-clause-rows : goal.returns-clause-rows
returns-clause-rows g c =
    let inside = c.self.inside in
    let rows : List RelationRow = inside.rows.rows in
    let child = c.args.child in
    let gone = c.args.gone in
    let from = c.loop-number.from in
    let len : length inside.children.labels ≡ length rows = ap (λ (l : List ℕ). length l) c.self.invariant.children ∙ length-map rows (λ row. row.first.0) in
    let view : rows ≡ c.args.self.now.rows = ap (λ (v : Kept). v.rows) c.self.view_is in
    let size = ap (λ (l : List RelationRow). length l) view in
    let same = but-length gone rows in
    let ended = subst (λ (l : List RelationRow). rows_before (rows_but gone l) child from ≡ rows_of (rows_but gone l) child) view
    (rows-ended (rows_but gone rows) inside.children.labels child from (c.self.invariant.children ∙ sym (but-labels gone rows)) (len ∙ sym same)
    (omega (arith, c.loop-number.invariant.within, size, same)) (search (rules, c.in_default.ensures.next))) in
    c.loop-number.invariant.rows ∙ ap (λ (l : List RelationRow). c.args.rows.now.items ++ l) ended

pub returns-clause-reads : goal.returns-clause-reads
returns-clause-reads g c =
    let few = places-few c.args.self.now.rows c.args.child c.loop-number.from c.loop-number.invariant.within in
    omega (arith, few, c.loop-number.invariant.reads, c.next.ensures.steps)

use Rattle.std.proofs.Common.{◌≡◌, ◌∙◌, ◌<◌, ◌++◌, ◌∷◌, [], length, take, get_or, sym, ap, inl, inr, arith}
use Rattle.std.proofs.lemmas.List.{take_all}
use Rattle.decision_book.specs.declared.decision_row.DecisionRow.{DecisionRow}
use Rattle.decision_book.specs.Recorded.{undone_at}
use Rattle.decision_book.specs.Standing.{standing}
use Rattle.decision_book.specs.DecisionLaws.{undoing_keeps_length}
use Rattle.decision_book.proofs.Undoing.{is_undone, left_out, not_undone, pushed, row_there}
use Rattle.decision_book.proofs.standing.standing_but.Goals as goal
use Rattle.decision_book.proofs.standing.standing_but.Goals.{then-not-row+then-at-from+in_ok-push, else-not-row, else-not-row-via-then-not-row+else-at-from, else-not-row-via-else-not-row}

pub loop-at-preserved : goal.loop-at-preserved
loop-at-preserved g c =
    let rows = c.args.rows.now.rows in
    let n = c.args.n.0 in
    let at = c.loop-at.at in
    let row : DecisionRow = c.get-row.result.now in
    let within : at < length rows = omega (arith, c.loop-at-test.true, c.len-at-end.ensures) in
    let here = row_there rows at row c.get-row.ensures.row in
    let before = c.loop-at.invariant.decisions in
    elim c.if-not-row.branch [
      | then-not-row+then-at-from+in_ok-push w ↦ record {
        decisions = w.decisions-is ∙ w.in_ok-push.ensures.ok ∙ ap (λ ds. ds ++ w.decision.result ∷ []) before
            ∙ ap (λ d. standing (take at (undone_at n rows)) ++ d ∷ []) w.decision.ensures
            ∙ sym (pushed rows n at row within here (λ same. w.if-at-from.true (same ∙ sym w.from.ensures)) (not_undone row.undone w.if-not-row.true));
        reads = omega (arith, c.loop-at.invariant.reads, c.get-row.ensures.steps);
      }
      | else-not-row w ↦ elim w.else-not-row.branch [
        | else-not-row-via-then-not-row+else-at-from v ↦ record {
          decisions = w.decisions-is ∙ before ∙ sym (left_out rows n at row within here (inl (v.if-at-from.false ∙ v.from.ensures)));
          reads = omega (arith, c.loop-at.invariant.reads, c.get-row.ensures.steps);
        }
        | else-not-row-via-else-not-row v ↦ record {
          decisions = w.decisions-is ∙ before ∙ sym (left_out rows n at row within here (inr (is_undone row.undone v.if-not-row.false)));
          reads = omega (arith, c.loop-at.invariant.reads, c.get-row.ensures.steps);
        }
      ]
    ]

pub returns-clause-decisions : goal.returns-clause-decisions
returns-clause-decisions g c =
    let rows = c.args.rows.now.rows in
    c.loop-at.invariant.decisions ∙ ap standing (take_all c.loop-at.at (undone_at c.args.n.0 rows) (omega (arith, undoing_keeps_length c.args.n.0 rows, c.loop-at-test.false, c.len-at-end.ensures)))

use Rattle.std.proofs.Common.{◌≡◌, ◌∙◌, ◌==◌, List, true, get_or, [], ◌∷◌, sym, ap}
use Rattle.std.specs.List.{list_any}
use Rattle.std.proofs.lemmas.List.Elements.{All-get_or}
use Rattle.sibling_chains.specs.declared.relation_row.RelationRow.{RelationRow}
use Rattle.sibling_chains.specs.Ends.{end_beside, ends_after}
use Rattle.sibling_chains.specs.Recorded.{no_row, pairs_of}
use Rattle.sibling_chains.proofs.Folds.{after-row}
use Rattle.sibling_chains.proofs.fold.meet_all.Goals as goal

pub meet_row-requires-clause-there : goal.meet_row-requires-clause-there
meet_row-requires-clause-there c =
    All-get_or (λ (row : RelationRow). list_any (λ t. t == row.first.0) c.args.tags.now ≡ true) c.args.rows.now c.loop-row.row-index no_row c.loop-row-test.true c.requires.there

pub loop-row-preserved : goal.loop-row-preserved
loop-row-preserved c =
    let rows : List RelationRow = c.args.rows.now in
    let i = c.loop-row.row-index in
    record {
      len = c.meet_row.ensures.len;
      met = c.meet_row.ensures.met
          ∙ ap (ends_after (pairs_of (get_or rows i no_row ∷ []) c.args.service)) c.loop-row.invariant.met
          ∙ sym (after-row rows c.args.service i no_row (end_beside c.args.tags.now c.args.chain_ends.now.items) c.loop-row-test.true);
    }

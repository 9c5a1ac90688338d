use Rattle.std.proofs.Common.{◌∙◌, ◌+◌, ◌++◌, List, length, length-append, take, get_or, ap, sym, arith}
use Rattle.std.specs.List.{flat_map}
use Rattle.sibling_chains.specs.Clustered.{rows_but}
use Rattle.sibling_chains.specs.declared.relation_row.RelationRow.{RelationRow}
use Rattle.parent_closure.specs.Kept.{rows_of}
use Rattle.parent_closure.proofs.Gathering.{one-child, few-children}
use Rattle.parent_closure.proofs.parents.Parents.rows_but.Goals as goal

pub returns-in_err-put_rows-clause-reads : goal.returns-in_err-put_rows-clause-reads
returns-in_err-put_rows-clause-reads g c =
    let rows = c.args.self.now.rows in
    let tags = c.args.tags.now in
    let i = c.loop-tag.tag-index in
    let more = ap length (one-child rows tags i c.loop-tag-test.true) in
    let sum = length-append (flat_map (rows_of rows) (take i tags)) (rows_of rows (get_or tags i 0)) in
    let few = few-children rows tags (i + 1) in
    omega (arith, c.put_rows.ensures.reads, c.loop-tag.invariant.reads, more, sum, few, c.loop-tag-test.true)

pub loop-tag-preserved : goal.loop-tag-preserved
loop-tag-preserved g c =
    let rows = c.args.self.now.rows in
    let tags = c.args.tags.now in
    let i = c.loop-tag.tag-index in
    let after = rows_but c.args.gone rows in
    let sum = length-append (flat_map (rows_of rows) (take i tags)) (rows_of rows (get_or tags i 0)) in
    let more = ap length (one-child rows tags i c.loop-tag-test.true) in
    record {
      rows =
          c.in_ok-put_rows.ensures.rows
          ∙ ap (λ (l : List RelationRow). l ++ rows_of after (get_or tags i 0)) c.loop-tag.invariant.rows
          ∙ sym (one-child after tags i c.loop-tag-test.true);
      reads = omega (arith, c.put_rows.ensures.reads, c.loop-tag.invariant.reads, more, sum);
    }

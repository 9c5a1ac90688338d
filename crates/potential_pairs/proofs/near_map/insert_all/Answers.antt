use Rattle.std.proofs.Common.{◌∙◌, Some, take, get_or, sym, ap, arith}
use Rattle.std.specs.BTreeMap.{insert_entry}
use Rattle.std.proofs.lemmas.List.{take_more}
use Rattle.spare_tables.specs.Order.{pair_cmp}
use Rattle.potential_pairs.specs.Planning.{with_changes}
use Rattle.potential_pairs.specs.Potential.{Row}
use Rattle.potential_pairs.proofs.Rows.{with_changes_push}
use Rattle.potential_pairs.proofs.near_map.insert_all.Goals as goal

abbrev no_pair : Row
no_pair = ((0, 0), 0)

pub loop-files-preserved : goal.loop-files-preserved
loop-files-preserved c =
    let pairs = c.args.pairs.now in
    let i = c.loop-files.files-index in
    let this = get_or pairs i no_pair in
    record {
      rows = c.insert.ensures.rows ∙ ap (λ rows. insert_entry pair_cmp rows this.0 this.1) c.loop-files.invariant.rows
          ∙ sym (with_changes_push Some (take i pairs) this c.args.map.now.rows)
          ∙ ap (λ list. with_changes Some list c.args.map.now.rows) (sym (take_more pairs i no_pair c.loop-files-test.true));
      room = omega (arith, c.insert.ensures.spare, c.loop-files.invariant.room);
    }

use Rattle.std.proofs.Common.{◌∙◌, ◌∷◌, [], Some, take, get_or, sym, ap, arith}
use Rattle.std.specs.BTreeMap.{insert_entry}
use Rattle.std.proofs.lemmas.List.{map-append, take_more}
use Rattle.spare_tables.specs.Order.{pair_cmp}
use Rattle.potential_pairs.specs.Keeping.{turned}
use Rattle.potential_pairs.specs.Planning.{with_changes}
use Rattle.potential_pairs.specs.Potential.{Row}
use Rattle.potential_pairs.proofs.Rows.{with_changes_push}
use Rattle.potential_pairs.proofs.near_map.insert_turned.Goals as goal

abbrev no_pair : Row
no_pair = ((0, 0), 0)

pub loop-f-preserved : goal.loop-f-preserved
loop-f-preserved c =
    let pairs = c.args.pairs.now in
    let i = c.loop-f.f-index in
    let this = get_or pairs i no_pair in
    record {
      rows = c.insert.ensures.rows ∙ ap (λ rows. insert_entry pair_cmp rows (this.0.1, this.0.0) this.1) c.loop-f.invariant.rows
          ∙ sym (with_changes_push Some (turned (take i pairs)) ((this.0.1, this.0.0), this.1) c.args.map.now.rows)
          ∙ ap (λ list. with_changes Some list c.args.map.now.rows) (sym (ap turned (take_more pairs i no_pair c.loop-f-test.true) ∙ map-append (λ (row : Row). ((row.0.1, row.0.0), row.1)) (take i pairs) (this ∷ [])));
      room = omega (arith, c.insert.ensures.spare, c.loop-f.invariant.room);
    }

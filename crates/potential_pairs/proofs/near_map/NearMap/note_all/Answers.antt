use Rattle.std.proofs.Common.{Some}
use Rattle.potential_pairs.proofs.OneFile.{near-noted}
use Rattle.potential_pairs.proofs.Rows.{shallow-with_changes, sorted-with_changes}
use Rattle.potential_pairs.specs.Keeping.{turned}
use Rattle.potential_pairs.proofs.near_map.NearMap.note_all.Goals as goal

pub invariant_of-self : goal.invariant_of-self
invariant_of-self c =
    let near = c.self.inside.lower_first.rows in
    let others = c.self.inside.higher_first.rows in
    let pairs = c.args.pairs.now in
    rw (c.insert_all.ensures, c.insert_turned.ensures) (record {
      sorted = sorted-with_changes Some pairs near c.self.invariant.sorted;
      shallow = shallow-with_changes pairs near c.requires.shallow c.self.invariant.shallow;
      others_sorted = sorted-with_changes Some (turned pairs) others c.self.invariant.others_sorted;
      turned = near-noted near others pairs c.requires.sorted c.self.invariant;
    })

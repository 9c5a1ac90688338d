use Rattle.std.proofs.lemmas.Map.Views.{All-values-insert_entry}
use Rattle.spare_tables.specs.Order.{pair_cmp}
use Rattle.potential_pairs.specs.Levels.{IsDistance}
use Rattle.potential_pairs.proofs.pair_draft.PairDraft.add_near.Goals as goal

pub invariant_of-self-2 : goal.invariant_of-self-2
invariant_of-self-2 c = record {
  sorted = c.insert.ensures.sorted;
  shallow = rw (c.insert.ensures.rows, c.reserve.ensures.rows) (All-values-insert_entry pair_cmp c.args.files c.args.distance IsDistance c.self.inside.near.rows c.self.invariant.shallow c.requires);
  tallies_sorted = c.self.invariant.tallies_sorted;
  named = c.self.invariant.named;
}

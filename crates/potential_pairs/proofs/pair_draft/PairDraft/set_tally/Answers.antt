use Rattle.std.proofs.lemmas.Map.Views.{All-keys-insert_entry}
use Rattle.spare_tables.specs.Order.{pair_cmp}
use Rattle.potential_pairs.specs.Levels.{IsName}
use Rattle.potential_pairs.proofs.pair_draft.PairDraft.set_tally.Goals as goal

pub invariant_of-self-2 : goal.invariant_of-self-2
invariant_of-self-2 c = record {
  sorted = c.self.invariant.sorted;
  shallow = c.self.invariant.shallow;
  tallies_sorted = c.insert.ensures.sorted;
  named = rw (c.insert.ensures.rows, c.reserve.ensures.rows) (All-keys-insert_entry pair_cmp c.args.name c.args.tally IsName c.self.inside.tallies.rows c.self.invariant.named c.requires);
}

use Rattle.std.proofs.Common.{Err, refl, ap, sym, ◌∙◌}
use Rattle.library_core.proofs.library.Library.load.Goals as goal

pub returns-in-Err-open_tables-clause-bad : goal.returns-in-Err-open_tables-clause-bad
returns-in-Err-open_tables-clause-bad g c = λ readings n gives told.
    c.open_tables.ensures.bad readings n (c.start.ensures.same_gives ∙ gives) (c.in-Err-open_tables.is ∙ ap Err told)

pub invariant_of-result : goal.invariant_of-result
invariant_of-result g c = record {
  fits = c.in-Ok-open_tables.ensures.fits;
  words = c.in-Ok-open_tables.ensures.words;
  is_ready = c.open_tables.ensures.ready;
  all_given = rw c.in-Ok-open_tables.ensures.place refl;
  own = rw (c.open_tables.ensures.same_alien, c.start.ensures.same_alien) c.in-Ok.ensures.own;
  opens = λ readings kept.
      let gives = g.met.K.Keeper.kept_is_given _ readings kept in
      c.in-Ok-open_tables.ensures.opened readings (sym c.open_tables.ensures.same_gives ∙ gives);
}

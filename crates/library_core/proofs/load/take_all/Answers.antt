use Rattle.std.proofs.Common.{◌<◌, Ok, Err, length, option_map, arith, sym, ap, ◌∙◌}
use Rattle.std.proofs.lemmas.Result.{err_from_is_err_and}
use Rattle.media_base.specs.Keeping.{next_place}
use Rattle.library_core.proofs.Opened.{opened_step, opened_bad, opened_end, reading_at}
use Rattle.library_core.proofs.load.take_all.Goals as goal

pub returns-in_err-take_next-clause-bad : goal.returns-in_err-take_next-clause-bad
returns-in_err-take_next-clause-bad g c = λ readings n gives told.
    let l = c.loop-number in
    let i = l.number in
    let p = err_from_is_err_and c.from_residual.result c.from_residual.ensures.1 in
    let is = ap Err (sym p.2) ∙ sym p.1 ∙ told in
    let given = l.invariant.gives ∙ gives in
    let lt : i < length readings = let all = c.requires.told readings gives in omega (arith, c.loop-number-test.true, all) in
    let at = reading_at readings i lt in
    let bad = c.in_err-take_next.ensures.bad readings i c.args.count n given l.invariant.place is at.0 at.1 in
    sym (l.invariant.so_far readings gives) ∙ opened_bad i _ readings at.0 at.1 bad ∙ ap Err (sym (c.in_err-take_next.ensures.its_number n is))

pub loop-number-preserved : goal.loop-number-preserved
loop-number-preserved g c =
    let l = c.loop-number in
    let i = l.number in
    record {
      ready = c.in_ok-take_next.ensures.ready;
      place = c.in_ok-take_next.ensures.place ∙ ap (option_map next_place) l.invariant.place;
      gives = c.in_ok-take_next.ensures.same_gives ∙ l.invariant.gives;
      kept = c.in_ok-take_next.ensures.same_kept ∙ l.invariant.kept;
      limit = c.in_ok-take_next.ensures.same_limit ∙ l.invariant.limit;
      units = c.in_ok-take_next.ensures.same_units ∙ l.invariant.units;
      alien = c.in_ok-take_next.ensures.same_alien ∙ l.invariant.alien;
      later = omega (arith, l.invariant.later, c.in_ok-take_next.ensures.cause.later);
      so_far = λ readings gives.
          let given = l.invariant.gives ∙ gives in
          let lt : i < length readings = let all = c.requires.told readings gives in omega (arith, c.loop-number-test.true, all) in
          let at = reading_at readings i lt in
          let leads = c.in_ok-take_next.ensures.taken readings i c.args.count given l.invariant.place at.0 at.1 in
          sym (opened_step i _ _ readings at.0 at.1 leads) ∙ l.invariant.so_far readings gives;
    }

pub returns-clause-opened : goal.returns-clause-opened
returns-clause-opened g c = λ readings gives.
    let l = c.loop-number in
    let all = c.requires.told readings gives in
    sym (l.invariant.so_far readings gives)
    ∙ opened_end l.number _ readings (omega (arith, all, c.loop-number-test.false))
    ∙ ap Ok (sym c.build_tree.ensures.records)

use Rattle.std.proofs.Common.{Ok, sym, ap, subst, ◌∙◌}
use Rattle.std.proofs.lemmas.Result.{err_from_is_err_and}
use Rattle.library_machine.specs.Asking.{asked}
use Rattle.library_machine.specs.Records.{Fits}
use Rattle.library_core.specs.Keeping.{LibraryView}
use Rattle.library_core.proofs.Finishing.{ask_refused, ask_told}
use Rattle.library_core.proofs.library.Library.answer_of.Goals as goal

pub returns-in_err-branch-in-Ask-clause-done : goal.returns-in_err-branch-in-Ask-clause-done
returns-in_err-branch-in-Ask-clause-done g c =
    let path = ap (λ (l : LibraryView g.row.K.Denot). asked l.state.kept c.in-Ask.query) (sym c.self.view_is) ∙ sym c.in_ok-ask-in-Ask.ensures.answer in
    let told = err_from_is_err_and c.from_residual-in_err-branch-in-Ask.result c.from_residual-in_err-branch-in-Ask.ensures.1 in
    rw (c.in-Ask.is, told.1, told.2) (ask_refused _ _ _ _ _ (path ∙ c.in_err-branch-in-Ask.was))

pub returns-in_ok-branch-in-Ask-clause-done : goal.returns-in_ok-branch-in-Ask-clause-done
returns-in_ok-branch-in-Ask-clause-done g c =
    let path = ap (λ (l : LibraryView g.row.K.Denot). asked l.state.kept c.in-Ask.query) (sym c.self.view_is) ∙ sym c.in_ok-ask-in-Ask.ensures.answer in
    rw c.in-Ask.is (ask_told _ _ _ _ _ (path ∙ c.in_ok-branch-in-Ask.was))

-- upkeep changes no record, and the tree has the words still
pub invariant_of-self-in-Tend : goal.invariant_of-self-in-Tend
invariant_of-self-in-Tend g c = record {
  fits = subst Fits (sym c.tend.ensures.records) c.self-in-Tend.invariant.fits;
  words = c.tend.ensures.words;
  is_ready = c.self-in-Tend.invariant.is_ready;
  all_given = c.self-in-Tend.invariant.all_given;
  own = c.self-in-Tend.invariant.own;
  opens = λ readings kept. c.self-in-Tend.invariant.opens readings kept ∙ ap Ok (sym c.tend.ensures.records);
}

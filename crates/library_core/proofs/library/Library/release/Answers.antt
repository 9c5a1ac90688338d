use Rattle.std.proofs.Common.{ap, ◌∙◌}
use Rattle.std.specs.Prelude.{Ok}
use Rattle.library_core.proofs.library.Library.release.Goals as goal

pub returns-clause-opens : goal.returns-clause-opens
returns-clause-opens g c = λ readings kept. c.self.invariant.opens readings kept ∙ ap (λ library. Ok library.state.kept) c.self.view_is

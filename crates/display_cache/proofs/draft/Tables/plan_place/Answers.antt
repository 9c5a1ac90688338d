use Rattle.std.proofs.Common.{◌∙◌, ℕ, sym, ap, subst}
use Rattle.display_cache.specs.Cache.{Cache, Keeps, given_to}
use Rattle.display_cache.specs.Drafting.{cache_after}
use Rattle.tag_types.specs.declared.limits.TheConstants.{MAX_SERVICES}
use Rattle.display_cache.proofs.Clauses.{on_ok}
use Rattle.display_cache.proofs.Placed.{placed}
use Rattle.display_cache.proofs.draft.Tables.plan_place.Goals as goal

pub returns-clause-keeps : goal.returns-clause-keeps
returns-clause-keeps g c = λ W V place kept.
    let s : ℕ = c.args.service in
    let f : ℕ = c.args.file in
    let before : Cache = cache_after c.args.draft.now c.args.self.now in
    on_ok c.give_to.result
    (λ given. subst (Keeps MAX_SERVICES V)
    (sym (given ∙ ap (given_to (λ _. c.args.live) s f c.args.now c.args.new.now) c.in_ok-take_from.ensures.after))
    (placed W V s c.args.tag f c.args.live c.args.was c.args.now c.args.old.now c.args.new.now before place kept))
    c.give_to.ensures.after

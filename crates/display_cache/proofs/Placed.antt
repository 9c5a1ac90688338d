-- A place that is planned.
use Rattle.std.proofs.Common.{◌≡◌, ◌∙◌, ◌<◌, ℕ, Bool, List, sym, ap, subst, All}
use Rattle.tag_types.specs.declared.limits.TheConstants.{MAX_SERVICES}
use Rattle.display_cache.specs.Shown.{World}
use Rattle.display_cache.specs.Cache.{Cache, Keeps, Support, given_to, moved, taken_from, unit_of}
use Rattle.display_cache.specs.Changing.{AreDistinct}
use Rattle.display_cache.specs.Placing.{IsPlaced}
use Rattle.display_cache.specs.PlaceLaws.{one-place}
use Rattle.display_cache.proofs.Drafts.{given-live, taken-live}

pub placed : (W V : World) (s t f : ℕ) (live : Bool) (was now : Support) (old new : List ℕ) (c : Cache) → IsPlaced W V s t f live was now old new
    → Keeps MAX_SERVICES W c
    → Keeps MAX_SERVICES V (given_to (λ _. live) s f now new (taken_from (λ _. live) s f was old c))
placed W V s t f live was now old new c h kept =
    let less : Cache = taken_from (λ _. live) s f was old c in
    let less_is : less ≡ taken_from V.live s f (unit_of (W.state s t f)) (W.force s t f) c =
    taken-live V.live s f was live h.mark old c
    ∙ ap (λ u. taken_from V.live s f u old c) h.gave
    ∙ ap (λ l. taken_from V.live s f (unit_of (W.state s t f)) l c) h.before in
    let whole : given_to (λ _. live) s f now new less ≡ moved W V s t f c =
    given-live V.live s f now live h.mark new less
    ∙ ap (λ u. given_to V.live s f u new less) h.gives
    ∙ ap (λ l. given_to V.live s f (unit_of (V.state s t f)) l less) h.after
    ∙ ap (given_to V.live s f (unit_of (V.state s t f)) (V.force s t f)) less_is in
    subst (Keeps MAX_SERVICES V) (sym whole)
    (one-place MAX_SERVICES W V s t f c h.differ h.service h.tag h.file
    (subst AreDistinct h.before h.old_distinct) (subst AreDistinct h.after h.new_distinct)
    (subst (λ l. All (λ x. x < W.tags) l) h.before h.old_there) (subst (λ l. All (λ x. x < W.tags) l) h.after h.new_there) kept)

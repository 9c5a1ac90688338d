-- One tag on one file of one service that gives otherwise, as a plan is told of it.
use Rattle.std.specs.Prelude.{◌≡◌, ◌<◌, ℕ, Bool, List, All}
use Rattle.tag_types.specs.declared.limits.TheConstants.{MAX_SERVICES}
use Rattle.display_cache.specs.Shown.{World}
use Rattle.display_cache.specs.Cache.{Support, unit_of}
use Rattle.display_cache.specs.Changing.{AreDistinct, DifferAt}

-- the file is live or not; what the tag's mapping gave and gives, to which lists
pub record IsPlaced (W V : World) (s t f : ℕ) (live : Bool) (was now : Support) (old new : List ℕ) : Type 0 where
  pub differ : DifferAt s t f W V
  pub service : s < MAX_SERVICES
  pub tag : t < W.tags
  pub file : f < W.files
  pub mark : V.live f ≡ live
  pub gave : was ≡ unit_of (W.state s t f)
  pub gives : now ≡ unit_of (V.state s t f)
  pub before : old ≡ W.force s t f
  pub after : new ≡ V.force s t f
  pub old_distinct : AreDistinct old
  pub new_distinct : AreDistinct new
  pub old_there : All (λ x. x < W.tags) old
  pub new_there : All (λ x. x < W.tags) new

use Rattle.std.proofs.Common.{Decides, not, ap, subst}
use Rattle.std.specs.List.{Contains}
use Rattle.display_cache.specs.Displayed.{KeptDisplay}
use Rattle.display_cache.proofs.Deleted.{live-unless}
use Rattle.display_cache.proofs.display.Display.is_live.Goals as goal

pub returns-clause-live : goal.returns-clause-live
returns-clause-live g c =
    let told : Decides c.contains.result (Contains c.args.self.now.shown.gone c.args.f.0) =
    subst (λ (kept : KeptDisplay). Decides c.contains.result (Contains kept.shown.gone c.args.f.0)) c.self.view_is c.contains.ensures.there in
    ap not (live-unless c.args.self.now.shown.gone c.args.f.0 c.contains.result told)

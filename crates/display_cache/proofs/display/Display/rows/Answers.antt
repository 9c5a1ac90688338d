use Rattle.std.proofs.Common.{◌∙◌, ap}
use Rattle.tag_types.specs.declared.limits.TheConstants.{MAX_SERVICES}
use Rattle.display_cache.specs.Displayed.{KeptDisplay, cache_of, records_in}
use Rattle.display_cache.specs.Recorded.{world_of}
use Rattle.display_cache.specs.TellLaws.{tells-rows}
use Rattle.display_cache.proofs.display.Display.rows.Goals as goal

pub returns-clause-triples : goal.returns-clause-triples
returns-clause-triples c = λ n m mappings is.
    let shown = c.args.self.now.shown in
    ap (λ (kept : KeptDisplay). kept.shown.rows) c.self.view_is
    ∙ tells-rows MAX_SERVICES (world_of (records_in n m mappings shown)) (cache_of shown) is.kept

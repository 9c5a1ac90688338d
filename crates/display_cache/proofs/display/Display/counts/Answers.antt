use Rattle.std.proofs.Common.{◌∙◌, ap}
use Rattle.std.specs.Option.{unwrap_or}
use Rattle.spare_tables.specs.Keys.{value_of}
use Rattle.spare_tables.specs.Order.{pair_cmp}
use Rattle.tag_types.specs.declared.limits.TheConstants.{MAX_SERVICES}
use Rattle.display_cache.specs.Cache.{Support, nothing}
use Rattle.display_cache.specs.Displayed.{KeptDisplay, cache_of, records_in}
use Rattle.display_cache.specs.Recorded.{world_of}
use Rattle.display_cache.specs.TellLaws.{tells-count, tells-count-pending}
use Rattle.display_cache.proofs.display.Display.counts.Goals as goal

pub returns-clause-current : goal.returns-clause-current
returns-clause-current g c = λ n m mappings is.
    let shown = c.args.self.now.shown in
    c.from-2.ensures
    ∙ ap (λ (u : Support). u.current) (c.counts-counts.ensures.value
    ∙ ap (λ s. unwrap_or (value_of pair_cmp c.self.inside.tables.counts (s, c.args.t.0)) nothing) c.from.ensures
    ∙ ap (λ (kept : KeptDisplay). unwrap_or (value_of pair_cmp kept.shown.counts (c.args.s.0, c.args.t.0)) nothing) c.self.view_is)
    ∙ tells-count MAX_SERVICES (world_of (records_in n m mappings shown)) (cache_of shown) is.kept c.args.s.0 c.args.t.0

pub returns-clause-pending : goal.returns-clause-pending
returns-clause-pending g c = λ n m mappings is.
    let shown = c.args.self.now.shown in
    c.from-3.ensures
    ∙ ap (λ (u : Support). u.pending) (c.counts-counts.ensures.value
    ∙ ap (λ s. unwrap_or (value_of pair_cmp c.self.inside.tables.counts (s, c.args.t.0)) nothing) c.from.ensures
    ∙ ap (λ (kept : KeptDisplay). unwrap_or (value_of pair_cmp kept.shown.counts (c.args.s.0, c.args.t.0)) nothing) c.self.view_is)
    ∙ tells-count-pending MAX_SERVICES (world_of (records_in n m mappings shown)) (cache_of shown) is.kept c.args.s.0 c.args.t.0

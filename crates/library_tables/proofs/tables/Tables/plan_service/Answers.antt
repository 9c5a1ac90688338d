use Rattle.std.proofs.Common.{◌≡◌, true, nat_lt, length, refl, subst, sym, rules}
use Rattle.library_machine.specs.Records.{Fits}
use Rattle.library_tables.specs.Tables.{TablesView, records_of}
use Rattle.tag_types.specs.declared.limits.TheConstants.{MAX_SERVICES}
use Rattle.library_tables.proofs.Mapping.{service_prepared}
use Rattle.library_tables.proofs.tables.Tables.plan_service.Goals as goal

pub returns-clause-prepared : goal.returns-clause-prepared
returns-clause-prepared c =
    let view : TablesView = record { files = c.self.inside.files; book = c.self.inside.book; groups = c.self.inside.groups; tree = c.self.inside.tree; pairs = c.self.inside.pairs; work = c.self.inside.upkeep; distance = c.self.inside.distance; tags = c.self.inside.tags; services = c.self.inside.services; mappings = c.self.inside.mappings; relations = c.self.inside.relations } in
    let new : TablesView = record view { relations = c.reserve_service.new.self } in
    let same = c.reserve_service.ensures.same in
    let records : records_of new ≡ records_of view = rw (same.siblings.rows, same.parents.rows) refl in
    let room : nat_lt (length new.services) MAX_SERVICES ≡ true = search rules in
    service_prepared new c.len-count.result c.in_ok-reserve_service.ensures.siblings c.in_ok-reserve_service.ensures.parents (subst Fits (sym records) c.self.invariant.fits) room c.len-count.ensures.value

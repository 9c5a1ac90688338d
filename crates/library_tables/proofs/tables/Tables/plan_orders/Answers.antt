use Rattle.std.proofs.Common.{◌≡◌, ◌∙◌, List, true, false, None, rules, slice_set, ap, refl, subst, sym}
use Rattle.std.specs.List.{list_all}
use Rattle.media_types.specs.declared.numbers.ServiceNo.{ServiceNo}
use Rattle.library_machine.specs.Needs.{has_service}
use Rattle.library_machine.specs.Records.{Fits}
use Rattle.library_machine.specs.Tagging.{has_orders, services_named, with_orders}
use Rattle.library_tables.specs.Tables.{AreInStep, TablesView, records_of}
use Rattle.library_tables.proofs.Mapping.{orders_over, orders_prepared, ordered_after, service_known}
use Rattle.library_tables.proofs.Pairing.{relations_in_step}
use Rattle.library_tables.proofs.tables.Tables.plan_orders.Goals as goal

pub returns-in-Some-clause-prepared : goal.returns-in-Some-clause-prepared
returns-in-Some-clause-prepared g c =
    let view : TablesView = record { files = c.self.inside.files; book = c.self.inside.book; groups = c.self.inside.groups; tree = c.self.inside.tree; pairs = c.self.inside.pairs; work = c.self.inside.upkeep; distance = c.self.inside.distance; tags = c.self.inside.tags; services = c.self.inside.services; mappings = c.self.inside.mappings; relations = c.self.inside.relations } in
    let new : TablesView = record view { relations = c.plan_orders.new.self } in
    let service = c.args.service in
    let orders = c.args.orders.now in
    let plan = c.in_ok-relations.relations in
    let same = c.plan_orders.ensures.same in
    let records : records_of new ≡ records_of view = rw (same.siblings.rows, same.parents.rows) refl in
    let fits : Fits (records_of new) = subst Fits (sym records) c.self.invariant.fits in
    let step : AreInStep new =
    relations_in_step view c.self.invariant c.self.inside.tags c.self.inside.services c.plan_orders.new.self fits (same.siblings.orders ∙ c.self.invariant.ordered) (same.parents.orders ∙ c.self.invariant.parents_ordered) in
    let siblings = c.in_ok-relations.ensures.siblings ∙ ap (λ (lists : List (List ServiceNo)). slice_set lists service.0 orders.siblings) (sym same.siblings.orders) in
    let parents = c.in_ok-relations.ensures.parents ∙ ap (λ (lists : List (List ServiceNo)). slice_set lists service.0 orders.parents) (sym same.parents.orders) in
    let ordered = ordered_after new service orders plan step c.in_ok-relations.ensures.fits c.in_ok-relations.ensures.service siblings parents in
    let told = c.in_ok-why.ensures (with_orders (records_of new) service orders) ordered in
    let there : list_all (has_service (records_of c.args.self.now)) (services_named service orders) ≡ true = search rules in
    let here : list_all (has_service (records_of new)) (services_named service orders) ≡ true =
    subst (λ (t : TablesView). list_all (has_service (records_of t)) (services_named service orders) ≡ true) (sym c.self.view_is) there in
    let done = orders_over new service orders c.in-Some.why here (sym told ∙ c.in-Some.is) in
    search rules

pub returns-clause-prepared : goal.returns-clause-prepared
returns-clause-prepared g c =
    let view : TablesView = record { files = c.self.inside.files; book = c.self.inside.book; groups = c.self.inside.groups; tree = c.self.inside.tree; pairs = c.self.inside.pairs; work = c.self.inside.upkeep; distance = c.self.inside.distance; tags = c.self.inside.tags; services = c.self.inside.services; mappings = c.self.inside.mappings; relations = c.self.inside.relations } in
    let new : TablesView = record view { relations = c.plan_orders.new.self } in
    let service = c.args.service in
    let orders = c.args.orders.now in
    let plan = c.in_ok-relations.relations in
    let same = c.plan_orders.ensures.same in
    let records : records_of new ≡ records_of view = rw (same.siblings.rows, same.parents.rows) refl in
    let fits : Fits (records_of new) = subst Fits (sym records) c.self.invariant.fits in
    let step : AreInStep new =
    relations_in_step view c.self.invariant c.self.inside.tags c.self.inside.services c.plan_orders.new.self fits (same.siblings.orders ∙ c.self.invariant.ordered) (same.parents.orders ∙ c.self.invariant.parents_ordered) in
    let siblings = c.in_ok-relations.ensures.siblings ∙ ap (λ (lists : List (List ServiceNo)). slice_set lists service.0 orders.siblings) (sym same.siblings.orders) in
    let parents = c.in_ok-relations.ensures.parents ∙ ap (λ (lists : List (List ServiceNo)). slice_set lists service.0 orders.parents) (sym same.parents.orders) in
    let ordered = ordered_after new service orders plan step c.in_ok-relations.ensures.fits c.in_ok-relations.ensures.service siblings parents in
    let told = c.in_ok-why.ensures (with_orders (records_of new) service orders) ordered in
    let there : list_all (has_service (records_of c.args.self.now)) (services_named service orders) ≡ true = search rules in
    let here : list_all (has_service (records_of new)) (services_named service orders) ≡ true =
    subst (λ (t : TablesView). list_all (has_service (records_of t)) (services_named service orders) ≡ true) (sym c.self.view_is) there in
    let other : has_orders (records_of c.args.self.now) service orders ≡ false = search rules in
    let fresh : has_orders (records_of new) service orders ≡ false = subst (λ (t : TablesView). has_orders (records_of t) service orders ≡ false) (sym c.self.view_is) other in
    let none : c.in_ok-why.field-0 ≡ None = search rules in
    orders_prepared new service orders plan c.in_ok-relations.ensures.fits siblings parents fits here (service_known (records_of new) service orders here) fresh (sym told ∙ none)

use Rattle.std.proofs.Common.{◌≡◌, List, slice_set, ap, refl, subst, sym, ◌∙◌}
use Rattle.std.proofs.lemmas.List.{map-set}
use Rattle.media_types.specs.declared.numbers.ServiceNo.{ServiceNo}
use Rattle.tag_types.specs.declared.orders.Orders.{Orders}
use Rattle.library_machine.specs.Records.{Fits}
use Rattle.library_tables.specs.Tables.{TablesView, parent_orders, sibling_orders}
use Rattle.library_tables.specs.Tags.{LeadsOrders}
use Rattle.library_tables.proofs.Pairing.{relations_in_step}
use Rattle.library_tables.proofs.tables.Tables.commit_orders.Goals as goal

pub invariant_of-self : goal.invariant_of-self
invariant_of-self c =
    let view : TablesView = record { files = c.self.inside.files; book = c.self.inside.book; groups = c.self.inside.groups; tree = c.self.inside.tree; pairs = c.self.inside.pairs; work = c.self.inside.upkeep; distance = c.self.inside.distance; tags = c.self.inside.tags; services = c.self.inside.services; mappings = c.self.inside.mappings; relations = c.self.inside.relations } in
    let plan = c.args.plan in
    let here = subst (λ (t : TablesView). LeadsOrders plan t c.requires.0) (sym c.self.view_is) c.requires.1 in
    let siblings = c.commit_orders.ensures.siblings.rows ∙ here.planned.sibling_rows in
    let parents = c.commit_orders.ensures.parents.rows ∙ here.planned.parent_rows in
    let ordered : c.commit_orders.new.self.siblings.orders ≡ sibling_orders c.set.new.self =
    c.commit_orders.ensures.siblings.orders ∙ here.siblings
    ∙ ap (λ (orders : List (List ServiceNo)). slice_set orders plan.service.0 plan.orders.siblings) c.self.invariant.ordered
    ∙ sym (map-set (λ (orders : Orders). orders.siblings) c.self.inside.services plan.service.0 plan.orders) ∙ ap sibling_orders (sym c.set.ensures) in
    let parents_ordered : c.commit_orders.new.self.parents.orders ≡ parent_orders c.set.new.self =
    c.commit_orders.ensures.parents.orders ∙ here.parents
    ∙ ap (λ (orders : List (List ServiceNo)). slice_set orders plan.service.0 plan.orders.parents) c.self.invariant.parents_ordered
    ∙ sym (map-set (λ (orders : Orders). orders.parents) c.self.inside.services plan.service.0 plan.orders) ∙ ap parent_orders (sym c.set.ensures) in
    relations_in_step view c.self.invariant c.self.inside.tags c.set.new.self c.commit_orders.new.self
    (subst Fits (here.leads ∙ rw (c.set.ensures, siblings, parents) refl) here.fits) ordered parents_ordered

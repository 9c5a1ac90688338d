use Rattle.std.proofs.Common.{◌≡◌, ◌∙◌, ◌<◌, ℕ, List, [], Some, None, option_map, length, ap, arith, subst, sym}
use Rattle.std.specs.Prelude.{find, slice_index_or}
use Rattle.std.proofs.lemmas.Option.{get_or_from_slice_get}
use Rattle.std.specs.List.{range_with_len}
use Rattle.media_types.specs.declared.numbers.ServiceNo.{ServiceNo}
use Rattle.media_types.specs.declared.numbers.TagNo.{TagNo}
use Rattle.parent_closure.specs.Ancestors.{is_over}
use Rattle.tag_relations.specs.Planning.{after_orders}
use Rattle.tag_relations.specs.Related.{relations_at}
use Rattle.library_machine.specs.Relating.{text_of}
use Rattle.library_tables.specs.Relations.{IsOrdered}
use Rattle.library_tables.specs.Tables.{TablesView}
use Rattle.library_tables.proofs.Implying.{found_from, orders_found, told_none, told_some}
use Rattle.library_tables.proofs.tables.Tables.over_orders.Goals as goal

pub text-requires : goal.text-requires
text-requires g c =
    let view : TablesView = record { files = c.self.inside.files; book = c.self.inside.book; groups = c.self.inside.groups; tree = c.self.inside.tree; pairs = c.self.inside.pairs; work = c.self.inside.upkeep; distance = c.self.inside.distance; tags = c.self.inside.tags; services = c.self.inside.services; mappings = c.self.inside.mappings; relations = c.self.inside.relations } in
    let plan = c.args.plan.now in
    let n = length view.tags.texts in
    let R = relations_at (after_orders plan view.relations) plan.service.0 in
    let end : c.len-end.result ≡ n = c.len-end.ensures.texts in
    let found : option_map (λ (tag : TagNo). tag.0) c.in_ok-over.over ≡ find (is_over n R) (range_with_len 0 n) =
    c.in_ok-over.ensures ∙ ap (λ (m : ℕ). find (is_over m R) (range_with_len 0 m)) end in
    let is : find (is_over n R) (range_with_len 0 n) ≡ Some c.in-Some.tag.0 = sym found ∙ ap (option_map (λ (tag : TagNo). tag.0)) c.in-Some.is in
    let lt = found_from (is_over n R) n 0 c.in-Some.tag.0 is in
    omega (arith, lt)

pub returns-in_ok-copied-in-Some : goal.returns-in_ok-copied-in-Some
returns-in_ok-copied-in-Some g c = λ after ordered.
    let view : TablesView = record { files = c.self.inside.files; book = c.self.inside.book; groups = c.self.inside.groups; tree = c.self.inside.tree; pairs = c.self.inside.pairs; work = c.self.inside.upkeep; distance = c.self.inside.distance; tags = c.self.inside.tags; services = c.self.inside.services; mappings = c.self.inside.mappings; relations = c.self.inside.relations } in
    let plan = c.args.plan.now in
    let n = length view.tags.texts in
    let R = relations_at (after_orders plan view.relations) plan.service.0 in
    let end : c.len-end.result ≡ n = c.len-end.ensures.texts in
    let found : option_map (λ (tag : TagNo). tag.0) c.in_ok-over.over ≡ find (is_over n R) (range_with_len 0 n) =
    c.in_ok-over.ensures ∙ ap (λ (m : ℕ). find (is_over m R) (range_with_len 0 m)) end in
    let here : IsOrdered plan view after = subst (λ (t : TablesView). IsOrdered plan t after) (sym c.self.view_is) ordered in
    let is : find (is_over n R) (range_with_len 0 n) ≡ Some c.in-Some.tag.0 = sym found ∙ ap (option_map (λ (tag : TagNo). tag.0)) c.in-Some.is in
    let there : plan.service.0 < length view.relations.siblings.orders = rw (← c.self.view_is) at c.requires.planned.service in
    let told = orders_found view plan after (Some c.in-Some.tag.0) c.self.invariant here there is in
    let service : c.service.result ≡ plan.service = c.service.ensures in
    let shown : c.text.result.now ≡ text_of after c.in-Some.tag.0 =
    sym (get_or_from_slice_get view.tags.texts c.in-Some.tag.0 c.text.result.now [] c.text.ensures) ∙ ap (λ (tags : List (List ℕ)). slice_index_or tags c.in-Some.tag.0 []) (sym here.tags) in
    told_some after c.service.result c.in-Some.tag c.in_ok-copied-in-Some.field-0 (told ∙ ap (λ (s : ServiceNo). Some (s.0, c.in-Some.tag.0)) (sym service)) (c.in_ok-copied-in-Some.ensures ∙ shown)

pub returns-in-None : goal.returns-in-None
returns-in-None g c = λ after ordered.
    let view : TablesView = record { files = c.self.inside.files; book = c.self.inside.book; groups = c.self.inside.groups; tree = c.self.inside.tree; pairs = c.self.inside.pairs; work = c.self.inside.upkeep; distance = c.self.inside.distance; tags = c.self.inside.tags; services = c.self.inside.services; mappings = c.self.inside.mappings; relations = c.self.inside.relations } in
    let plan = c.args.plan.now in
    let n = length view.tags.texts in
    let R = relations_at (after_orders plan view.relations) plan.service.0 in
    let end : c.len-end.result ≡ n = c.len-end.ensures.texts in
    let found : option_map (λ (tag : TagNo). tag.0) c.in_ok-over.over ≡ find (is_over n R) (range_with_len 0 n) =
    c.in_ok-over.ensures ∙ ap (λ (m : ℕ). find (is_over m R) (range_with_len 0 m)) end in
    let here : IsOrdered plan view after = subst (λ (t : TablesView). IsOrdered plan t after) (sym c.self.view_is) ordered in
    let is : find (is_over n R) (range_with_len 0 n) ≡ None = sym found ∙ ap (option_map (λ (tag : TagNo). tag.0)) c.in-None.is in
    let there : plan.service.0 < length view.relations.siblings.orders = rw (← c.self.view_is) at c.requires.planned.service in
    told_none after (orders_found view plan after None c.self.invariant here there is)

use Rattle.std.proofs.Common.{◌≡◌, ◌<◌, ◌≤◌, [], length, slice_index_or, arith, subst}
use Rattle.library_machine.specs.Relating.{pair_tags, with_both}
use Rattle.library_tables.specs.Tables.{TablesView, records_of}
use Rattle.library_tables.proofs.Pairing.{text_first, text_second}
use Rattle.library_tables.proofs.tables.Tables.text_with.Goals as goal

pub returns-then-tag-number : goal.returns-then-tag-number
returns-then-tag-number c =
    let view : TablesView = record { files = c.self.inside.files; book = c.self.inside.book; groups = c.self.inside.groups; tree = c.self.inside.tree; pairs = c.self.inside.pairs; work = c.self.inside.upkeep; distance = c.self.inside.distance; tags = c.self.inside.tags; services = c.self.inside.services; mappings = c.self.inside.mappings; relations = c.self.inside.relations } in
    let pair = c.args.pair.now in
    let same : c.args.tag.0 ≡ (pair_tags (records_of view) pair).first.0 = omega (arith, c.if-tag-number.true, c.number.ensures) in
    subst (λ (t : TablesView). pair.first ≡ slice_index_or (with_both t.tags.texts pair.first pair.second) c.args.tag.0 []) c.self.view_is (text_first (records_of view) pair c.args.tag.0 same)

pub returns-else-tag-number : goal.returns-else-tag-number
returns-else-tag-number c =
    let view : TablesView = record { files = c.self.inside.files; book = c.self.inside.book; groups = c.self.inside.groups; tree = c.self.inside.tree; pairs = c.self.inside.pairs; work = c.self.inside.upkeep; distance = c.self.inside.distance; tags = c.self.inside.tags; services = c.self.inside.services; mappings = c.self.inside.mappings; relations = c.self.inside.relations } in
    let pair = c.args.pair.now in
    let past : length (records_of view).tags ≤ c.args.tag.0 = omega (arith, c.if-tag-len.false, c.len.ensures.texts) in
    let below : c.args.tag.0 < length (with_both view.tags.texts pair.first pair.second) = rw (← c.self.view_is) at c.requires in
    let other : c.args.tag.0 ≡ (pair_tags (records_of view) pair).first.0 → ⊥ = λ same. omega (arith, same, c.if-tag-number.false, c.number.ensures) in
    subst (λ (t : TablesView). pair.second ≡ slice_index_or (with_both t.tags.texts pair.first pair.second) c.args.tag.0 []) c.self.view_is
    (text_second (records_of view) pair c.args.tag.0 past below other)

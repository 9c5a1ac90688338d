use Rattle.std.proofs.Common.{◌≡◌, ◌∙◌, ◌<◌, IfOk, List, ℕ, [], length, map, slice_index_or, ap, arith, subst, sym}
use Rattle.std.specs.Prelude.{All}
use Rattle.media_types.specs.declared.numbers.TagNo.{TagNo}
use Rattle.library_machine.specs.LimitLaws.{below_by}
use Rattle.library_machine.specs.Relating.{ancestor_numbers, text_of}
use Rattle.library_tables.specs.Tables.{TablesView, records_of}
use Rattle.tag_relations.specs.WorkLaws.{work-ends}
use Rattle.library_tables.proofs.Implying.{ancestors_same, ancestors_there, ancestors_told}
use Rattle.library_tables.proofs.tables.Tables.ancestors.Goals as goal

pub returns-in_err-numbers-clause-reads : goal.returns-in_err-numbers-clause-reads
returns-in_err-numbers-clause-reads g c =
    let view : TablesView = record { files = c.self.inside.files; book = c.self.inside.book; groups = c.self.inside.groups; tree = c.self.inside.tree; pairs = c.self.inside.pairs; work = c.self.inside.upkeep; distance = c.self.inside.distance; tags = c.self.inside.tags; services = c.self.inside.services; mappings = c.self.inside.mappings; relations = c.self.inside.relations } in
    let v = view.relations in
    let there : c.args.tag.0 < length view.tags.texts = rw (← c.self.view_is) at c.requires.tag in
    let work = work-ends v.siblings.rows v.parents.rows v.siblings.tags (length view.tags.texts) c.args.tag.0
    (below_by (length view.services) (length view.tags.texts) v.siblings.rows c.self.invariant.fits.siblings) (below_by (length view.services) (length view.tags.texts) v.parents.rows c.self.invariant.fits.parents) there in
    rw (← c.self.view_is) (omega (arith, c.ancestors.ensures.reads, work))

pub returns-clause-reads : goal.returns-clause-reads
returns-clause-reads g c =
    let view : TablesView = record { files = c.self.inside.files; book = c.self.inside.book; groups = c.self.inside.groups; tree = c.self.inside.tree; pairs = c.self.inside.pairs; work = c.self.inside.upkeep; distance = c.self.inside.distance; tags = c.self.inside.tags; services = c.self.inside.services; mappings = c.self.inside.mappings; relations = c.self.inside.relations } in
    let v = view.relations in
    let there : c.args.tag.0 < length view.tags.texts = rw (← c.self.view_is) at c.requires.tag in
    let work = work-ends v.siblings.rows v.parents.rows v.siblings.tags (length view.tags.texts) c.args.tag.0
    (below_by (length view.services) (length view.tags.texts) v.siblings.rows c.self.invariant.fits.siblings) (below_by (length view.services) (length view.tags.texts) v.parents.rows c.self.invariant.fits.parents) there in
    rw (← c.self.view_is) (omega (arith, c.ancestors.ensures.reads, work))

pub texts_of-requires : goal.texts_of-requires
texts_of-requires g c =
    let view : TablesView = record { files = c.self.inside.files; book = c.self.inside.book; groups = c.self.inside.groups; tree = c.self.inside.tree; pairs = c.self.inside.pairs; work = c.self.inside.upkeep; distance = c.self.inside.distance; tags = c.self.inside.tags; services = c.self.inside.services; mappings = c.self.inside.mappings; relations = c.self.inside.relations } in
    let numbers = c.in_ok-numbers.numbers in
    let same = ancestors_same view c.args.service c.args.tag c.len-end.result numbers c.self.invariant c.len-end.ensures.texts c.in_ok-numbers.ensures.told in
    let there : All (λ (tag : TagNo). tag.0 < length view.tags.texts) numbers = ancestors_there (records_of view) c.args.service c.args.tag numbers same in
    let listed : All (λ (tag : TagNo). tag.0 < length view.tags.texts) c.as_slice.result.now = subst (All (λ (tag : TagNo). tag.0 < length view.tags.texts)) (sym c.as_slice.ensures) there in
    subst (λ (t : TablesView). All (λ (tag : TagNo). tag.0 < length t.tags.texts) c.as_slice.result.now) c.self.view_is listed

pub returns-clause-texts : goal.returns-clause-texts
returns-clause-texts g c =
    let view : TablesView = record { files = c.self.inside.files; book = c.self.inside.book; groups = c.self.inside.groups; tree = c.self.inside.tree; pairs = c.self.inside.pairs; work = c.self.inside.upkeep; distance = c.self.inside.distance; tags = c.self.inside.tags; services = c.self.inside.services; mappings = c.self.inside.mappings; relations = c.self.inside.relations } in
    let numbers = c.in_ok-numbers.numbers in
    let told = ancestors_told view c.args.service c.args.tag c.len-end.result numbers c.self.invariant c.len-end.ensures.texts c.in_ok-numbers.ensures.told in
    let listed : map (λ (tag : TagNo). slice_index_or view.tags.texts tag.0 []) c.as_slice.result.now ≡ map (text_of (records_of view)) (ancestor_numbers (records_of view) c.args.service c.args.tag) =
    ap (map (λ (tag : TagNo). slice_index_or view.tags.texts tag.0 [])) c.as_slice.ensures ∙ told in
    let here = subst (λ (t : TablesView). map (λ (tag : TagNo). slice_index_or t.tags.texts tag.0 []) c.as_slice.result.now ≡ map (text_of (records_of t)) (ancestor_numbers (records_of t) c.args.service c.args.tag)) c.self.view_is listed in
    subst (λ (wanted : List (List ℕ)). IfOk c.texts_of.result (λ list. list ≡ wanted)) here c.texts_of.ensures

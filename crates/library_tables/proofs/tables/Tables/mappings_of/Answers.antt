use Rattle.std.proofs.Common.{◌≡◌, Some, slice_get, rules}
use Rattle.tag_store.specs.Mapped.{tags_of_file}
use Rattle.library_machine.specs.Records.{Fits}
use Rattle.library_tables.specs.Tables.{records_of}
use Rattle.library_tables.proofs.Telling.{telling_first, telling_last, telling_next, telling_there}
use Rattle.library_tables.proofs.tables.Tables.mappings_of.Goals as goal

pub loop-tag-init : goal.loop-tag-init
loop-tag-init g c =
    let t = c.args.self.now in
    let fits : Fits (records_of t) = search rules in
    let tags : c.walk_file-walk.result ≡ tags_of_file t.mappings.rows c.args.service.0 c.args.file.0 = search rules in
    telling_first t c.args.service c.args.file c.args.steps.now c.walk_file-walk.new.steps c.new.result c.new-2.result c.new-3.result c.walk_file-walk.result
    fits c.walk_file-walk.ensures.steps c.new.ensures c.new-2.ensures c.new-3.ensures tags

pub text-requires : goal.text-requires
text-requires g c =
    let there = telling_there c.args.self.now c.args.service c.args.file c.args.steps.now c.loop-tag.steps c.loop-tag.told c.loop-tag.walk c.next.new.self c.in-Some.tag c.in-Some.state
    c.loop-tag.invariant c.in-Some.ensures.taken in
    search rules

pub loop-tag-preserved : goal.loop-tag-preserved
loop-tag-preserved g c =
    let t = c.args.self.now in
    let at : slice_get t.tags.texts c.in-Some.tag.0 ≡ Some c.in_ok-text.text = search rules in
    telling_next t c.args.service c.args.file c.args.steps.now c.loop-tag.steps c.next.new.steps c.loop-tag.told c.put_text.new.told c.loop-tag.walk c.next.new.self c.in-Some.tag c.in-Some.state
    c.in_ok-text.text c.loop-tag.invariant c.in-Some.ensures.taken c.next.ensures.steps at c.in_ok-put_text.ensures

pub returns-clause-told : goal.returns-clause-told
returns-clause-told g c = search (rules, telling_last)

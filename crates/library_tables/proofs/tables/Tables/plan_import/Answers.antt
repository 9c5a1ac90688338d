use Rattle.std.proofs.Common.{◌≤◌, List, length, nat_lt, arith, subst, sym, not, ap, ◌∙◌}
use Rattle.std.proofs.lemmas.Bool.{lt-ltb}
use Rattle.media_types.specs.declared.hash.Hash64.{Hash64}
use Rattle.library_tables.specs.Tables.{TablesView}
use Rattle.library_tables.proofs.Importing.{has_some, import_prepared}
use Rattle.library_tables.proofs.Placing.{asks_of_tree}
use Rattle.library_tables.proofs.tables.Tables.plan_import.Goals as goal

pub plan_words-requires-clause-few : goal.plan_words-requires-clause-few
plan_words-requires-clause-few g c =
    (asks_of_tree c.self.inside.tree c.self.inside.files.rows c.plan_import.new.self.rows c.plan_import.new.self.spare _ _ c.self.invariant.words c.plan_import.ensures.rows c.in_ok-file.ensures.planned c.words.ensures).few

pub returns-clause-prepared : goal.returns-clause-prepared
returns-clause-prepared g c =
    let new : TablesView = record { files = c.plan_import.new.self; book = c.reserve.new.self; groups = c.reserve_file.new.self; tree = c.plan_words.new.tree; pairs = c.self.inside.pairs; work = c.reserve-2.new.self; distance = c.self.inside.distance; tags = c.self.inside.tags; services = c.self.inside.services; mappings = c.self.inside.mappings; relations = c.self.inside.relations } in
    let rows = c.plan_import.ensures.rows in
    let asks = asks_of_tree c.self.inside.tree c.self.inside.files.rows c.plan_import.new.self.rows c.plan_import.new.self.spare _ _ c.self.invariant.words rows c.in_ok-file.ensures.planned c.words.ensures in
    import_prepared new c.args.file.now (record { file = c.in_ok-file.file; words = c.in_ok-words.words; queued = not c.is_empty-queued.result }) c.len-count.result
    (rw (rows, c.in_ok-reserve.ensures.rows) c.self.invariant.fits) (rw rows (sym c.in_default.ensures.place)) (rw rows (lt-ltb _ _ (omega (arith, c.len-count.ensures.rows)))) (c.len-count.ensures.rows ∙ ap length (sym rows))
    c.in_ok-reserve.ensures.ok c.in_ok-reserve_file.ensures.ok c.in_ok-reserve-2.ensures.ok
    (omega (arith, c.in_ok-reserve-2.ensures.mark_room, ap length c.words.ensures, asks.few))
    c.in_ok-file.ensures.row c.in_ok-file.ensures.planned (c.in_ok-words.ensures.plans ∙ c.words.ensures)
    (subst (λ (words : List Hash64). length words ≤ c.plan_words.new.tree.spare) c.words.ensures c.in_ok-words.ensures.room) (ap (λ (hashes : List Hash64). nat_lt 0 (length hashes)) (sym c.as_slice.ensures.list) ∙ has_some _ _ c.is_empty-queued.ensures)

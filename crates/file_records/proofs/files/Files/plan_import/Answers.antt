use Rattle.std.proofs.Common.{◌≤◌, ◌-◌, vec_len, vec_capacity, ap, ◌∙◌, subst, List, length, arith}
use Rattle.std.specs.List.{All}
use Rattle.media_types.specs.declared.limits.TheConstants.{MAX_HASHES}
use Rattle.spare_tables.specs.Table.{Table}
use Rattle.file_records.specs.declared.file_row.FileRow.{FileRow}
use Rattle.file_records.specs.Rows.{row_of}
use Rattle.file_records.specs.Words.{new_words, words_of}
use Rattle.file_records.proofs.Planning.{planned}
use Rattle.file_records.proofs.Room.{room_made}
use Rattle.file_records.proofs.files.Files.plan_import.Goals as goal

pub returns-clause-planned : goal.returns-clause-planned
returns-clause-planned c =
    let file = c.args.file.now in
    let files = c.args.self.now.rows in
    let seen = ap (λ (files : Table FileRow). files.rows) c.self.view_is in
    let few : All (λ f. length f.hashes ≤ MAX_HASHES) files = subst (λ (files : List FileRow). All (λ f. length f.hashes ≤ MAX_HASHES) files) seen c.self.invariant.0.few_hashes in
    let row = c.from-row.ensures ∙ ap row_of c.in_ok-copied.ensures in
    let words = c.in_ok-words.ensures ∙ ap (new_words (words_of files)) c.as_slice.ensures.list in
    let few_hashes : length file.hashes ≤ MAX_HASHES = omega (arith, c.as_slice.ensures.few) in
    let rows = c.reserve-2.new.self in
    let room = room_made _ (vec_capacity rows - vec_len rows) _ _ c.in_ok-reserve.ensures.ok (omega (arith, c.in_ok-reserve-2.ensures.ok)) c.in_ok-reserve-3.ensures.ok c.in_ok-reserve-4.ensures.ok in
    rw (c.reserve-2.ensures.items ∙ seen, row)
    (planned file files c.in_ok-words.words _ few c.requires.unknown c.requires.few few_hashes words room)

use Rattle.std.proofs.Common.{◌≡◌, ◌≤◌, ◌++◌, ◌∙◌, length, ap, sym, subst, arith}
use Rattle.spare_tables.specs.Table.{Table}
use Rattle.file_records.specs.declared.file_row.FileRow.{FileRow}
use Rattle.file_records.specs.Importing.{PlannedFile, IsPlannedFor}
use Rattle.file_records.specs.Words.{words_of, new_words}
use Rattle.file_records.proofs.Holders.{held_with_last}
use Rattle.file_records.proofs.Lookups.{index_of_pushed}
use Rattle.file_records.specs.NumberLaws.{among_with_last}
use Rattle.file_records.proofs.Room.{room_for_one, room_taken}
use Rattle.file_records.specs.WordLaws.{few_new_words, words_of_more}
use Rattle.file_records.proofs.Words.{words_with_last}
use Rattle.file_records.proofs.files.Files.commit_import.Goals as goal

pub add_words-requires-clause-room : goal.add_words-requires-clause-room
add_words-requires-clause-room c =
    let room = room_for_one _ _ _ _ (subst (λ (files : Table FileRow). 1 ≤ files.spare) (sym c.self.view_is) c.requires.room) in
    let words = ap (λ (plan : PlannedFile). plan.words) c.plan.view_is in
    omega (arith, room.2, few_new_words (words_of c.args.self.now.rows) c.args.plan.row.hashes, c.requires.few_hashes, ap length c.requires.words, ap length words, ap length c.as_slice.ensures)

pub add_holders-requires-clause-known : goal.add_holders-requires-clause-known
add_holders-requires-clause-known c =
    let files = c.self.inside.rows.items in
    let file = c.plan.inside.row in
    let planned = subst (λ (plan : PlannedFile). IsPlannedFor plan c.args.self.now) (sym c.plan.view_is) c.requires in
    let plan = subst (λ (files : Table FileRow). IsPlannedFor (record { row = file; words = c.plan.inside.words }) files) (sym c.self.view_is) planned in
    among_with_last file files _ _ _ _ c.self.invariant.1.in_order (c.as_slice.ensures ∙ plan.words) c.add_words.ensures.words c.as_slice-2.ensures.list

pub invariant_of-self : goal.invariant_of-self
invariant_of-self c =
    let files = c.self.inside.rows.items in
    let file = c.plan.inside.row in
    let planned = subst (λ (plan : PlannedFile). IsPlannedFor plan c.args.self.now) (sym c.plan.view_is) c.requires in
    let plan = subst (λ (files : Table FileRow). IsPlannedFor (record { row = file; words = c.plan.inside.words }) files) (sym c.self.view_is) planned in
    let words = words_with_last file files c.self.inside.words.keys _ c.add_words.new.words.keys c.self.invariant.1.in_order (c.as_slice.ensures ∙ plan.words) c.add_words.ensures.words in
    rw c.push_reserved.ensures.items (
      index_of_pushed c.self.inside.index.keys _ files file c.self.invariant.0 plan.unknown plan.few plan.few_hashes (rw c.unwrap-added.ensures at c.insert.ensures.keys),
      held_with_last file files _ _ _ _ c.self.inside.holders.rows _ c.self.invariant.1 words c.as_slice-2.ensures.list
          (c.len-number.ensures ∙ c.self.inside.rows.ok.0) c.add_holders.ensures.holders,
    )

pub returns-clause-words : goal.returns-clause-words
returns-clause-words c =
    let files = c.self.inside.rows.items in
    let all = c.push_reserved.new.self.items in
    let more = ap words_of c.push_reserved.ensures.items ∙ words_of_more c.plan.inside.row files in
    let as_planned = subst (λ (plan : PlannedFile). words_of all ≡ words_of files ++ new_words (words_of files) plan.row.hashes) c.plan.view_is more in
    let as_seen = subst (λ (files : Table FileRow). words_of all ≡ words_of files.rows ++ new_words (words_of files.rows) c.args.plan.row.hashes) c.self.view_is as_planned in
    as_seen ∙ ap (λ ws. words_of c.args.self.now.rows ++ ws) (sym c.requires.words)

pub returns-clause-spare : goal.returns-clause-spare
returns-clause-spare c =
    let spare = ap (λ (files : Table FileRow). files.spare) c.self.view_is in
    let words = ap (λ (plan : PlannedFile). plan.words) c.plan.view_is in
    let few = few_new_words (words_of c.args.self.now.rows) c.args.plan.row.hashes in
    rw (sym spare) (room_taken _ _ _ _ _ _ _ _ c.insert.ensures.spare
    (omega (arith, c.push_reserved.ensures.capacity, c.push_reserved.ensures.len))
    (omega (arith, c.add_words.ensures.spare, few, c.requires.few_hashes, ap length c.requires.words, ap length words, ap length c.as_slice.ensures))
    (omega (arith, c.add_holders.ensures.spare, c.as_slice-2.ensures.few, ap length c.as_slice-2.ensures.list)))

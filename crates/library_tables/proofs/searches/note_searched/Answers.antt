use Rattle.std.proofs.Common.{◌≡◌, ◌∷◌, [], List, take, get_or, arith, ap, sym, ◌∙◌, false}
use Rattle.std.proofs.lemmas.List.{take_more}
use Rattle.media_types.specs.declared.numbers.FileNo.{FileNo}
use Rattle.file_records.specs.Searching.{queue_of, searched}
use Rattle.tree_upkeep.specs.Queue.{Work, noted}
use Rattle.file_records.specs.QueueLaws.{queue_ascends, queue_leaves, queue_stays}
use Rattle.file_records.specs.SearchLaws.{one_more}
use Rattle.tree_upkeep.specs.EndLaws.{taken_out}
use Rattle.library_tables.proofs.Queueing.{other_file}
use Rattle.library_tables.proofs.searches.note_searched.Goals as goal
use Rattle.library_tables.proofs.searches.note_searched.Goals.{then-bits, else-bits}

pub loop-file-preserved : goal.loop-file-preserved
loop-file-preserved c =
    let l = c.loop-file in
    let file = get_or c.args.found.now l.file-index (record { 0 = 0 }) in
    let d = c.args.distance in
    let wanted = c.args.library in
    let rows = l.files.rows in
    let same : queue_of wanted (searched d (file ∷ []) rows) ≡ queue_of wanted c.set_searched.new.self.rows = ap (queue_of wanted) (sym c.set_searched.ensures.rows) in
    record {
      rows =
          c.set_searched.ensures.rows ∙ ap (searched d (file ∷ [])) l.invariant.rows
          ∙ one_more d (take l.file-index c.args.found.now) file c.args.files.now.rows
          ∙ ap (λ (files : List FileNo). searched d files c.args.files.now.rows) (sym (take_more c.args.found.now l.file-index _ c.loop-file-test.true));
      queued = elim c.if-bits.branch [
        | then-bits w ↦
            let ascend = queue_ascends wanted rows in
            ap (λ (work : Work). work.queue) w.upkeep-is ∙ w.note.ensures.queue ∙ ap (noted file false) l.invariant.queued
            ∙ taken_out file (queue_of wanted rows) ascend ∙ other_file file (queue_of wanted rows)
            ∙ sym (queue_leaves d wanted (file ∷ []) rows (omega (arith, w.if-bits.true, c.bits.ensures.value, c.bits-in-loop-file.ensures.value))) ∙ same
        | else-bits w ↦
            ap (λ (work : Work). work.queue) w.upkeep-is ∙ l.invariant.queued
            ∙ sym (queue_stays d wanted (file ∷ []) rows (omega (arith, w.if-bits.false, c.bits.ensures.value, c.bits-in-loop-file.ensures.value))) ∙ same
      ];
      marks = elim c.if-bits.branch [
        | then-bits w ↦ ap (λ (work : Work). work.marks) w.upkeep-is ∙ w.note.ensures.marks ∙ l.invariant.marks
        | else-bits w ↦ ap (λ (work : Work). work.marks) w.upkeep-is ∙ l.invariant.marks
      ];
    }

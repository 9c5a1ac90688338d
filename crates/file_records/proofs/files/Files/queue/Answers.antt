use Rattle.std.proofs.Common.{◌≡◌, ◌<◌, ◌++◌, [], ◌∷◌, length, ap, sym, ◌∙◌, arith}
use Rattle.file_records.specs.AscendingLaws.{file_of}
use Rattle.file_records.proofs.Queues.{queue_leaves_out, queue_takes, whole_queue}
use Rattle.file_records.proofs.files.Files.queue.Goals as goal
use Rattle.file_records.proofs.files.Files.queue.Goals.{then-is_queued+in_ok-push, else-is_queued}

pub loop-number-preserved : goal.loop-number-preserved
loop-number-preserved g c =
    let d = c.args.within in
    let read = c.self.inside.rows.items in
    let rows = c.args.self.now.rows in
    let n = c.loop-number.number in
    let same : read ≡ rows = ap (λ files. files.rows) c.self.view_is in
    let within : n < length read = omega arith in
    record {
      queue = elim c.if-is_queued.branch [
        | then-is_queued+in_ok-push w ↦ rw w.queue-is
            (w.in_ok-push.ensures.ok ∙ ap (λ queue. queue ++ file_of n ∷ []) c.loop-number.invariant.queue
            ∙ sym (queue_takes d read rows n c.index.result.now c.is_queued.result same within c.index.ensures c.is_queued.ensures w.if-is_queued.true))
        | else-is_queued w ↦ rw w.queue-is
            (c.loop-number.invariant.queue
            ∙ sym (queue_leaves_out d read rows n c.index.result.now c.is_queued.result same within c.index.ensures c.is_queued.ensures w.if-is_queued.false))
      ];
      reads = omega (arith, c.loop-number.invariant.reads, c.tick.ensures);
    }

pub returns-clause-files : goal.returns-clause-files
returns-clause-files g c =
    c.loop-number.invariant.queue
    ∙ whole_queue c.args.within c.args.self.now.rows c.loop-number.number (omega (arith, c.len-number-end.ensures, ap (λ files. length files.rows) c.self.view_is))

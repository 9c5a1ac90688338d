use Rattle.std.proofs.Common.{◌≡◌, ◌+◌, ◌-◌, ℕ, List, length, arith, ap, subst, sym, ◌∙◌}
use Rattle.std.specs.List.{filter}
use Rattle.media_types.specs.declared.numbers.FileNo.{FileNo}
use Rattle.file_records.specs.declared.file_row.FileRow.{FileRow}
use Rattle.file_records.specs.QueueLaws.{queue_left}
use Rattle.file_records.specs.Searching.{is_queued, passes, queue_of, rising, searched}
use Rattle.library_tables.specs.Tables.{TablesView}
use Rattle.library_tables.proofs.tables.Tables.waiting_after.Goals as goal

-- what waits after the search, and what no longer does, is what waited
leaving : (d w : ℕ) (rows : List FileRow) (named risen : List FileNo) (count waiting : ℕ) (queue : List FileNo) →
    length (queue_of d (searched w named rows)) + length (filter (λ file. passes (is_queued d) rows file.0) (rising w named rows)) ≡ length (queue_of d rows) →
    count ≡ length (filter (λ file. passes (is_queued d) rows file.0) risen) → risen ≡ rising w named rows →
    waiting ≡ length queue → queue ≡ queue_of d rows →
    length (queue_of d (searched w named rows)) + count ≡ waiting
leaving d w rows named risen count waiting queue left counted is all same =
    let count_is = counted ∙ ap (λ (files : List FileNo). length (filter (λ file. passes (is_queued d) rows file.0) files)) is in
    let waiting_is = all ∙ ap length same in
    omega (arith, left, count_is, waiting_is)

pub overflow_sub-result : goal.overflow_sub-result
overflow_sub-result g c =
    let t = c.self.inside in
    let named = c.requires.risen.0 in
    let left = queue_left c.args.distance t.distance named t.files.rows (omega (arith, c.if-bits.false, c.bits.ensures.value, c.bits-2.ensures.value)) in
    let after = leaving t.distance c.args.distance t.files.rows named c.args.risen.now c.count_queued.result _ t.upkeep.queue left (subst (λ (t : TablesView). c.count_queued.result ≡ length (filter (λ file. passes (is_queued t.distance) t.files.rows file.0) c.args.risen.now)) (sym c.self.view_is) c.count_queued.ensures.count)
    (subst (λ (t : TablesView). c.args.risen.now ≡ rising c.args.distance named t.files.rows) (sym c.self.view_is) c.requires.risen.1) c.queue_len-waiting.ensures.files c.self.invariant.queued in
    omega (arith, after)

pub returns-clause-left : goal.returns-clause-left
returns-clause-left g c = λ named is.
    let t = c.self.inside in
    let left = queue_left c.args.distance t.distance named t.files.rows (omega (arith, c.if-bits.false, c.bits.ensures.value, c.bits-2.ensures.value)) in
    let after = leaving t.distance c.args.distance t.files.rows named c.args.risen.now c.count_queued.result _ t.upkeep.queue left (subst (λ (t : TablesView). c.count_queued.result ≡ length (filter (λ file. passes (is_queued t.distance) t.files.rows file.0) c.args.risen.now)) (sym c.self.view_is) c.count_queued.ensures.count)
    (subst (λ (t : TablesView). c.args.risen.now ≡ rising c.args.distance named t.files.rows) (sym c.self.view_is) is) c.queue_len-waiting.ensures.files c.self.invariant.queued in
    subst (λ (t : TablesView). c.queue_len-waiting.result - c.count_queued.result ≡ length (queue_of t.distance (searched c.args.distance named t.files.rows))) c.self.view_is (omega (arith, after))

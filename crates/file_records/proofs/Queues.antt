-- The queue, found one file after the other.
use Rattle.std.proofs.Common.{◌≡◌, ◌<◌, ◌+◌, ◌++◌, ℕ, Bool, true, false, cond, List, [], ◌∷◌, length, get_or, append-nil, ap, ◌∙◌, arith}
use Rattle.std.specs.List.{filter}
use Rattle.std.proofs.lemmas.List.FromFn.{filter_of_map_range_with_len_more}
use Rattle.media_types.specs.Numbered.{files}
use Rattle.media_types.specs.declared.numbers.FileNo.{FileNo}
use Rattle.file_records.specs.declared.file_row.FileRow.{FileRow}
use Rattle.file_records.specs.Searching.{is_queued, queue_of}
use Rattle.file_records.specs.AscendingLaws.{file_of}
use Rattle.file_records.proofs.Listed.{passes_as_read}
use Rattle.file_records.specs.QueueLaws.{waits}

-- ---- the files below a number that wait, one after the other
abbrev pub queue_below : ℕ → List FileRow → ℕ → List FileNo
queue_below d rows n = filter (waits d rows) (files n)

queue_below_more : (d : ℕ) (rows : List FileRow) (n : ℕ) (waiting : Bool) → waits d rows (file_of n) ≡ waiting →
    queue_below d rows (n + 1) ≡ queue_below d rows n ++ cond waiting (file_of n ∷ []) []
queue_below_more d rows n waiting is =
    filter_of_map_range_with_len_more (waits d rows) file_of 0 n n (omega arith) ∙ ap (λ b. queue_below d rows n ++ cond b (file_of n ∷ []) []) is

pub queue_takes : (d : ℕ) (read rows : List FileRow) (n : ℕ) (row : FileRow) (waiting : Bool) →
    read ≡ rows → n < length read → row ≡ get_or read n row → waiting ≡ is_queued d row → waiting ≡ true →
    queue_below d rows (n + 1) ≡ queue_below d rows n ++ file_of n ∷ []
queue_takes d read rows n row waiting same within at is waits =
    queue_below_more d rows n true (passes_as_read (is_queued d) read rows n row waiting same within at is ∙ waits)

pub queue_leaves_out : (d : ℕ) (read rows : List FileRow) (n : ℕ) (row : FileRow) (waiting : Bool) →
    read ≡ rows → n < length read → row ≡ get_or read n row → waiting ≡ is_queued d row → waiting ≡ false →
    queue_below d rows (n + 1) ≡ queue_below d rows n
queue_leaves_out d read rows n row waiting same within at is waits =
    queue_below_more d rows n false (passes_as_read (is_queued d) read rows n row waiting same within at is ∙ waits) ∙ append-nil (queue_below d rows n)

pub whole_queue : (d : ℕ) (rows : List FileRow) (n : ℕ) → n ≡ length rows → queue_below d rows n ≡ queue_of d rows
unfolding queue_of
whole_queue d rows n all = ap (queue_below d rows) all

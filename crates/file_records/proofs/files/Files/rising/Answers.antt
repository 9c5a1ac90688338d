use Rattle.std.proofs.Common.{◌≡◌, ◌<◌, true, false, length, get_or, slice_get, ◌-◌, All, length-append, ap, sym, ◌∙◌, arith}
use Rattle.std.specs.List.Sorted.{IsNonDecreasingBy}
use Rattle.std.proofs.lemmas.List.{get_or_default}
use Rattle.std.proofs.lemmas.List.Sorted.{All-permutation, IsNonDecreasingBy-from_sort}
use Rattle.media_types.specs.declared.numbers.FileNo.{FileNo}
use Rattle.file_records.specs.Searching.{is_short_of}
use Rattle.file_records.proofs.Rising.{again_is_not_found, far_is_not_found, is_last, is_not_last, next_is_found, none_named, whole_rising}
use Rattle.file_records.proofs.Listed.{passes_as_read}
use Rattle.file_records.proofs.files.Files.rising.Goals as goal
use Rattle.file_records.proofs.files.Files.rising.Goals.{then-ne+then-is_short_of+in_ok-push, else-ne, else-ne-via-then-ne+else-is_short_of, else-ne-via-else-ne}

pub loop-file-init : goal.loop-file-init
loop-file-init g c = record {
  found = c.new-found.ensures ∙ sym (none_named c.args.within c.args.self.now.rows);
  few = omega (arith, ap length c.new-found.ensures);
  reads = omega arith;
}

pub index-requires : goal.index-requires
index-requires g c =
    let zero : FileNo = record { 0 = 0 } in
    let n = length c.args.self.now.rows in
    let known : All (λ f. f.0 < n) c.as_slice-file-items.result.now =
    rw (c.as_slice-file-items.ensures.value)
    (All-permutation (λ f. f.0 < n) c.in_ok-files.files.items _ c.sort_unstable.ensures.permutation (rw c.in_ok-files.ensures.items c.requires)) in
    omega (arith, known c.loop-file.file-index zero c.loop-file-test.true, c.self.inside.rows.ok.0, ap (λ files. length files.rows) c.self.view_is)

pub loop-file-preserved : goal.loop-file-preserved
loop-file-preserved g c =
    let d = c.args.within in
    let read = c.self.inside.rows.items in
    let rows = c.args.self.now.rows in
    let sorted = c.as_slice-file-items.result.now in
    let i = c.loop-file.file-index in
    let zero : FileNo = record { 0 = 0 } in
    let file = get_or sorted i zero in
    let n = length rows in
    let inside : i < length sorted = c.loop-file-test.true in
    let at : file ≡ get_or sorted i file = get_or_default sorted i zero file inside in
    let found = c.loop-file.found in
    let so_far = c.loop-file.invariant.found in
    let ended = c.copied-last.ensures ∙ c.last.ensures.value ∙ ap (λ fs. slice_get fs (length fs - 1)) c.as_slice.ensures in
    let same : read ≡ rows = ap (λ files. files.rows) c.self.view_is in
    let known : All (λ f. f.0 < n) sorted =
    rw (c.as_slice-file-items.ensures.value)
    (All-permutation (λ f. f.0 < n) c.in_ok-files.files.items _ c.sort_unstable.ensures.permutation (rw c.in_ok-files.ensures.items c.requires)) in
    let within : file.0 < length read = omega (arith, known i zero inside, ap length same) in
    let ordered : IsNonDecreasingBy (λ f. f.0) sorted =
    rw c.as_slice-file-items.ensures.value (IsNonDecreasingBy-from_sort (λ f. f.0) _ c.sort_unstable.ensures.sorted) in
    record {
      found = elim c.if-ne.branch [
        | then-ne+then-is_short_of+in_ok-push w ↦
            let short = passes_as_read (is_short_of d) read rows file.0 w.index.result.now true same within w.index.ensures (sym w.if-is_short_of.true ∙ w.is_short_of.ensures) in
            rw w.found-is (w.in_ok-push.ensures.ok
            ∙ next_is_found d sorted i file rows found c.copied-last.result ordered inside at so_far ended (is_not_last c.copied-last.result file c.ne.result c.ne.ensures w.if-ne.true) short)
        | else-ne w ↦ elim w.else-ne.branch [
          | else-ne-via-then-ne+else-is_short_of w' ↦
              let far = passes_as_read (is_short_of d) read rows file.0 w'.index.result.now false same within w'.index.ensures (sym w'.if-is_short_of.false ∙ w'.is_short_of.ensures) in
              rw w.found-is (far_is_not_found d sorted i file rows found inside at so_far far)
          | else-ne-via-else-ne w' ↦ rw w.found-is
              (again_is_not_found d sorted i file rows found c.copied-last.result inside at so_far ended (is_last c.copied-last.result file c.ne.result c.ne.ensures w'.if-ne.false))
        ]
      ];
      few = elim c.if-ne.branch [
        | then-ne+then-is_short_of+in_ok-push w ↦
            rw w.found-is (omega (arith, ap length w.in_ok-push.ensures.ok, length-append found, c.loop-file.invariant.few))
        | else-ne w ↦ rw w.found-is (omega (arith, c.loop-file.invariant.few))
      ];
      reads = omega (arith, c.loop-file.invariant.reads, c.tick.ensures);
    }

pub returns-clause-files : goal.returns-clause-files
returns-clause-files g c =
    whole_rising c.args.within c.args.named.now c.in_ok-files.files.items c.sort_unstable.new.self.items c.as_slice-file-items.result.now c.loop-file.file-index c.args.self.now.rows c.loop-file.found
    c.in_ok-files.ensures.items c.sort_unstable.ensures.permutation c.as_slice-file-items.ensures.value (omega arith) c.loop-file.invariant.found

use Rattle.std.proofs.Common.{◌≡◌, ◌<◌, ◌∙◌, [], length, sum_by, subst, sym, ap, arith}
use Rattle.std.specs.List.{All, flat_map}
use Rattle.std.proofs.lemmas.List.{take_all}
use Rattle.std.proofs.lemmas.List.Sums.{sum_by_more, sum_by_more_le}
use Rattle.media_types.specs.declared.numbers.FileNo.{FileNo}
use Rattle.file_records.specs.Near.{near_pairs}
use Rattle.file_records.specs.SearchLaws.{known}
use Rattle.file_records.specs.Searching.{rising, searched}
use Rattle.potential_pairs.specs.Planning.{AreFound, with_found}
use Rattle.near_search.specs.Noting.{IsRise, noted_of}
use Rattle.near_search.specs.Work.{met_of, work}
use Rattle.near_search.proofs.Joined.{found_right}
use Rattle.near_search.proofs.Meeting.{few_found, flat_more, work_is}
use Rattle.near_search.proofs.finding.find_near.Goals as goal

abbrev no_file : FileNo
no_file = record { 0 = 0 }

pub note_file-requires-clause-known : goal.note_file-requires-clause-known
note_file-requires-clause-known g c =
    let rows = c.args.files.now.rows in
    subst (All (λ (f : FileNo). f.0 < length rows)) (sym c.requires.risen.1) (known c.args.distance c.requires.risen.0 rows) c.loop-file.file-index no_file c.loop-file-test.true

pub loop-file-preserved : goal.loop-file-preserved
loop-file-preserved g c =
    let tree = c.args.tree.now.rows in
    let rows = c.args.files.now.rows in
    let d = c.bits.result in
    let risen = c.args.risen.now in
    record {
      noted = flat_more (noted_of tree rows d risen) [] c.loop-file.found c.note_file.new.found risen c.loop-file.file-index no_file
          c.loop-file-test.true c.loop-file.invariant.noted c.in_ok-note_file.ensures.found;
      reads = omega (
        arith,
        sum_by_more (met_of tree rows d) risen c.loop-file.file-index no_file c.loop-file-test.true,
        c.loop-file.invariant.reads,
        c.in_ok-note_file.ensures.reads,
      );
    }

pub returns-in_err-note_file-clause-reads : goal.returns-in_err-note_file-clause-reads
returns-in_err-note_file-clause-reads g c =
    let tree = c.args.tree.now.rows in
    let rows = c.args.files.now.rows in
    let d = c.bits.result in
    let risen = c.args.risen.now in
    omega (
      arith,
      sum_by_more_le (met_of tree rows d) risen c.loop-file.file-index no_file c.loop-file-test.true,
      work_is tree rows d risen,
      ap (λ n. work tree rows n risen) c.bits.ensures.value,
      c.loop-file.invariant.reads,
      c.in_err-note_file.ensures.reads,
    )

pub returns-clause-found : goal.returns-clause-found
returns-clause-found g c =
    let tree = c.args.tree.now.rows in
    let rows = c.args.files.now.rows in
    let d = c.bits.result in
    let risen = c.args.risen.now in
    let is : IsRise d rows risen = (c.requires.risen.0, c.requires.risen.1 ∙ ap (λ n. rising n c.requires.risen.0 rows) (sym c.bits.ensures.value)) in
    let all : c.loop-file.found ≡ flat_map (noted_of tree rows d risen) risen = c.loop-file.invariant.noted ∙ ap (flat_map (noted_of tree rows d risen)) (take_all c.loop-file.file-index risen (omega arith)) in
    let right = found_right tree rows d risen c.requires.words is (omega (arith, c.bits.ensures.fits, c.bits.ensures.value)) in
    subst (AreFound (length rows) (near_pairs rows)) (sym all) right.0

pub returns-clause-near : goal.returns-clause-near
returns-clause-near g c =
    let tree = c.args.tree.now.rows in
    let rows = c.args.files.now.rows in
    let d = c.bits.result in
    let risen = c.args.risen.now in
    let is : IsRise d rows risen = (c.requires.risen.0, c.requires.risen.1 ∙ ap (λ n. rising n c.requires.risen.0 rows) (sym c.bits.ensures.value)) in
    let all : c.loop-file.found ≡ flat_map (noted_of tree rows d risen) risen = c.loop-file.invariant.noted ∙ ap (flat_map (noted_of tree rows d risen)) (take_all c.loop-file.file-index risen (omega arith)) in
    let right = found_right tree rows d risen c.requires.words is (omega (arith, c.bits.ensures.fits, c.bits.ensures.value)) in
    ap (λ found. with_found found (near_pairs rows)) all ∙ right.1 ∙ ap (λ n. near_pairs (searched n risen rows)) c.bits.ensures.value

pub returns-clause-few : goal.returns-clause-few
returns-clause-few g c =
    let tree = c.args.tree.now.rows in
    let rows = c.args.files.now.rows in
    let d = c.bits.result in
    let risen = c.args.risen.now in
    let all : c.loop-file.found ≡ flat_map (noted_of tree rows d risen) risen = c.loop-file.invariant.noted ∙ ap (flat_map (noted_of tree rows d risen)) (take_all c.loop-file.file-index risen (omega arith)) in
    omega (arith, few_found tree rows d risen, ap length all, ap (λ n. work tree rows n risen) c.bits.ensures.value)

pub returns-clause-reads : goal.returns-clause-reads
returns-clause-reads g c =
    let tree = c.args.tree.now.rows in
    let rows = c.args.files.now.rows in
    let d = c.bits.result in
    let risen = c.args.risen.now in
    omega (
      arith,
      ap (sum_by (met_of tree rows d)) (take_all c.loop-file.file-index risen (omega arith)),
      work_is tree rows d risen,
      ap (λ n. work tree rows n risen) c.bits.ensures.value,
      c.loop-file.invariant.reads,
    )

use Rattle.std.proofs.Common.{◌≡◌, ◌∙◌, ◌++◌, [], append-nil, sum_by, sym, ap, arith}
use Rattle.std.specs.List.{flat_map}
use Rattle.std.specs.Option.{option_map_or}
use Rattle.std.proofs.lemmas.List.{take_all}
use Rattle.std.proofs.lemmas.List.Sums.{sum-map, sum_by_more, sum_by_more_le}
use Rattle.media_types.specs.declared.hash.Hash64.{Hash64}
use Rattle.file_records.specs.Near.{hashes_at}
use Rattle.near_search.specs.Noting.{noted_near}
use Rattle.near_search.specs.Work.{met}
use Rattle.near_search.proofs.Meeting.{flat_more}
use Rattle.near_search.proofs.search.Search.note_file.Goals as goal

abbrev no_hash : Hash64
no_hash = record { 0 = 0 }

pub loop-hash-init : goal.loop-hash-init
loop-hash-init g c = record { noted = sym (append-nil c.args.found.now); reads = omega arith }

pub returns-in_err-note_near-clause-reads : goal.returns-in_err-note_near-clause-reads
returns-in_err-note_near-clause-reads g c =
    let search = c.args.self.now in
    let rows = search.files.now.rows in
    let hashes = c.as_slice-hash-items.result.now in
    let meet = met search.tree.now.rows rows search.distance in
    let are : hashes ≡ hashes_at rows c.args.file.0 = c.as_slice-hash-items.ensures.list ∙ ap (λ row. option_map_or (λ r. r.hashes) row []) (sym c.row-row.ensures.row) in
    omega (
      arith,
      sum_by_more_le meet hashes c.loop-hash.hash-index no_hash c.loop-hash-test.true,
      ap (sum_by meet) are,
      sum-map meet (hashes_at rows c.args.file.0),
      c.row-row.ensures.steps,
      c.loop-hash.invariant.reads,
      c.in_err-note_near.ensures.reads,
    )

pub loop-hash-preserved : goal.loop-hash-preserved
loop-hash-preserved g c =
    let search = c.args.self.now in
    let tree = search.tree.now.rows in
    let rows = search.files.now.rows in
    let hashes = c.as_slice-hash-items.result.now in
    let meet = met tree rows search.distance in
    record {
      noted = flat_more (noted_near tree rows search.distance search.risen.now c.args.file) c.args.found.now c.loop-hash.found c.note_near.new.found hashes c.loop-hash.hash-index no_hash
          c.loop-hash-test.true c.loop-hash.invariant.noted c.in_ok-note_near.ensures.found;
      reads = omega (
        arith,
        sum_by_more meet hashes c.loop-hash.hash-index no_hash c.loop-hash-test.true,
        c.loop-hash.invariant.reads,
        c.in_ok-note_near.ensures.reads,
      );
    }

pub returns-clause-found : goal.returns-clause-found
returns-clause-found g c =
    let search = c.args.self.now in
    let rows = search.files.now.rows in
    let hashes = c.as_slice-hash-items.result.now in
    let note = noted_near search.tree.now.rows rows search.distance search.risen.now c.args.file in
    let are : hashes ≡ hashes_at rows c.args.file.0 = c.as_slice-hash-items.ensures.list ∙ ap (λ row. option_map_or (λ r. r.hashes) row []) (sym c.row-row.ensures.row) in
    c.loop-hash.invariant.noted ∙ ap (λ hs. c.args.found.now ++ flat_map note hs) (take_all c.loop-hash.hash-index hashes (omega arith) ∙ are)

pub returns-clause-reads : goal.returns-clause-reads
returns-clause-reads g c =
    let search = c.args.self.now in
    let rows = search.files.now.rows in
    let hashes = c.as_slice-hash-items.result.now in
    let meet = met search.tree.now.rows rows search.distance in
    let are : hashes ≡ hashes_at rows c.args.file.0 = c.as_slice-hash-items.ensures.list ∙ ap (λ row. option_map_or (λ r. r.hashes) row []) (sym c.row-row.ensures.row) in
    omega (
      arith,
      ap (sum_by meet) (take_all c.loop-hash.hash-index hashes (omega arith) ∙ are),
      sum-map meet (hashes_at rows c.args.file.0),
      c.row-row.ensures.steps,
      c.loop-hash.invariant.reads,
    )

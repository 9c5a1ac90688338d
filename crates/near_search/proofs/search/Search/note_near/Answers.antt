use Rattle.std.proofs.Common.{◌≡◌, ◌∙◌, ℕ, sum_by, ap, arith}
use Rattle.std.proofs.lemmas.List.Sums.{sum_by_more, sum_by_more_le}
use Rattle.media_types.specs.declared.numbers.HashNo.{HashNo}
use Rattle.vp_tree.specs.Searching.{filter_of, reads}
use Rattle.near_search.specs.Noting.{noted_at}
use Rattle.near_search.specs.Work.{holders}
use Rattle.near_search.proofs.Meeting.{flat_more, holder_at, met_is}
use Rattle.near_search.proofs.search.Search.note_near.Goals as goal

abbrev no_hit : HashNo × ℕ
no_hit = (record { 0 = 0 }, 0)

pub returns-in_err-note_holders-clause-reads : goal.returns-in_err-note_holders-clause-reads
returns-in_err-note_holders-clause-reads g c =
    let search = c.args.self.now in
    let tree = search.tree.now.rows in
    let rows = search.files.now.rows in
    let hits = c.as_slice-word-items.result.now in
    let i = c.loop-word.word-index in
    let bits : c.from.result ≡ search.distance = c.from.ensures in
    let are : hits ≡ filter_of tree c.args.hash search.distance = c.as_slice-word-items.ensures ∙ c.in_ok-hits.ensures.found ∙ ap (filter_of tree c.args.hash) bits in
    let count : HashNo × ℕ → ℕ = λ h. holders rows h.0.0 in
    let some = holder_at tree rows c.args.hash search.distance c.requires.words hits are i no_hit c.loop-word-test.true in
    omega (
      arith,
      some,
      sum_by_more_le count hits i no_hit c.loop-word-test.true,
      ap (sum_by count) are,
      met_is tree rows search.distance c.args.hash,
      ap (λ n. reads tree c.args.hash n) bits,
      c.in_ok-hits.ensures.at_most,
      c.loop-word.invariant.reads,
      c.in_err-note_holders.ensures.reads,
    )

pub loop-word-preserved : goal.loop-word-preserved
loop-word-preserved g c =
    let search = c.args.self.now in
    let tree = search.tree.now.rows in
    let rows = search.files.now.rows in
    let hits = c.as_slice-word-items.result.now in
    let i = c.loop-word.word-index in
    let bits : c.from.result ≡ search.distance = c.from.ensures in
    let are : hits ≡ filter_of tree c.args.hash search.distance = c.as_slice-word-items.ensures ∙ c.in_ok-hits.ensures.found ∙ ap (filter_of tree c.args.hash) bits in
    let count : HashNo × ℕ → ℕ = λ h. holders rows h.0.0 in
    let some = holder_at tree rows c.args.hash search.distance c.requires.words hits are i no_hit c.loop-word-test.true in
    record {
      noted = flat_more (λ (h : HashNo × ℕ). noted_at tree rows search.distance search.risen.now c.args.file h.0.0) c.args.found.now c.loop-word.found c.note_holders.new.found hits i no_hit
          c.loop-word-test.true c.loop-word.invariant.noted c.in_ok-note_holders.ensures.found;
      reads = omega (arith, some, sum_by_more count hits i no_hit c.loop-word-test.true, c.loop-word.invariant.reads, c.in_ok-note_holders.ensures.reads);
    }

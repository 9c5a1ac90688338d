use Rattle.std.proofs.Common.{◌≡◌, ◌∙◌, ℕ, ◌/◌, rules, sym, ap, arith}
use Rattle.std.proofs.lemmas.List.Sorted.{IsNonDecreasingBy-from_sort_by_key}
use Rattle.media_types.specs.declared.numbers.HashNo.{HashNo}
use Rattle.word_chunks.specs.MaskLaws.{masks_are, IsMasks}
use Rattle.word_chunks.specs.Masks.{masks_below}
use Rattle.word_chunks.specs.Reading.{reads}
use Rattle.word_chunks.specs.Rows.{words_in}
use Rattle.word_chunks.specs.Searching.{filter_of}
use Rattle.word_chunks.proofs.Sorting.{sorted-found, IsFoundOnce}
use Rattle.word_chunks.proofs.Told.{found-once, reads-gathered, told-gathered}
use Rattle.word_chunks.proofs.words.WordChunks.search.Goals as goal

pub returns-clause-found : goal.returns-clause-found
returns-clause-found g c =
    let within : c.from.result ≡ c.args.distance = c.from.ensures ∙ c.bits-2.ensures.value in
    let made : c.within-masks.result.now ≡ masks_below (c.from.result / 4) 65536 = c.within-masks.ensures ∙ ap (λ d. masks_below (d / 4) 65536) (c.bits.ensures.value ∙ sym within) in
    let masks : IsMasks 65536 (c.from.result / 4) c.within-masks.result.now = rw made (masks_are 65536 (c.from.result / 4)) in
    let once : IsFoundOnce (words_in c.self.inside.first.rows) c.args.word c.from.result c.tell_all-4.new.hits.items =
    rw (told-gathered c.self.inside.first.rows c.self.inside.second.rows c.self.inside.third.rows c.self.inside.fourth.rows c.self.invariant c.args.word c.from.result
    c.within-masks.result.now _ _ _ _ _ c.new-hits.ensures.items c.in_ok-tell_all.ensures.hits c.in_ok-tell_all-2.ensures.hits c.in_ok-tell_all-3.ensures.hits c.in_ok-tell_all-4.ensures.hits)
    (found-once (words_in c.self.inside.first.rows) c.args.word c.from.result c.within-masks.result.now masks) in
    c.from_rows.ensures
    ∙ sorted-found (words_in c.self.inside.first.rows) c.args.word c.from.result c.tell_all-4.new.hits.items _ once c.sort_unstable_by_key.ensures.permutation
    (IsNonDecreasingBy-from_sort_by_key (λ (h : HashNo × ℕ). h.0.0) _ c.sort_unstable_by_key.ensures.sorted (λ a r q k. search rules))
    ∙ ap (λ d. filter_of (words_in c.self.inside.first.rows) c.args.word d) within
    ∙ ap (λ t. filter_of t.rows c.args.word c.args.distance) c.self.view_is

pub returns-clause-reads : goal.returns-clause-reads
returns-clause-reads g c =
    let masks : c.within-masks.result.now ≡ masks_below (c.args.distance / 4) 65536 = c.within-masks.ensures ∙ ap (λ d. masks_below (d / 4) 65536) c.bits.ensures.value in
    omega (
      arith,
      c.in_ok-tell_all.ensures.steps,
      c.in_ok-tell_all-2.ensures.steps,
      c.in_ok-tell_all-3.ensures.steps,
      c.in_ok-tell_all-4.ensures.steps,
      reads-gathered c.self.inside.first.rows c.self.inside.second.rows c.self.inside.third.rows c.self.inside.fourth.rows c.self.invariant c.args.word c.args.distance
          c.within-masks.result.now masks,
      ap (λ t. reads t.rows c.args.word c.args.distance) c.self.view_is,
    )

pub returns-clause-at_most : goal.returns-clause-at_most
returns-clause-at_most g c =
    let masks : c.within-masks.result.now ≡ masks_below (c.args.distance / 4) 65536 = c.within-masks.ensures ∙ ap (λ d. masks_below (d / 4) 65536) c.bits.ensures.value in
    omega (
      arith,
      c.in_ok-tell_all.ensures.steps,
      c.in_ok-tell_all-2.ensures.steps,
      c.in_ok-tell_all-3.ensures.steps,
      c.in_ok-tell_all-4.ensures.steps,
      reads-gathered c.self.inside.first.rows c.self.inside.second.rows c.self.inside.third.rows c.self.inside.fourth.rows c.self.invariant c.args.word c.args.distance
          c.within-masks.result.now masks,
      ap (λ t. reads t.rows c.args.word c.args.distance) c.self.view_is,
    )

pub returns-in_err-tell_all-clause-at_most : goal.returns-in_err-tell_all-clause-at_most
returns-in_err-tell_all-clause-at_most g c =
    let masks : c.within-masks.result.now ≡ masks_below (c.args.distance / 4) 65536 = c.within-masks.ensures ∙ ap (λ d. masks_below (d / 4) 65536) c.bits.ensures.value in
    omega (
      arith,
      c.in_err-tell_all.ensures.at_most,
      reads-gathered c.self.inside.first.rows c.self.inside.second.rows c.self.inside.third.rows c.self.inside.fourth.rows c.self.invariant c.args.word c.args.distance
          c.within-masks.result.now masks,
      ap (λ t. reads t.rows c.args.word c.args.distance) c.self.view_is,
    )

pub returns-in_err-tell_all-2-clause-at_most : goal.returns-in_err-tell_all-2-clause-at_most
returns-in_err-tell_all-2-clause-at_most g c =
    let masks : c.within-masks.result.now ≡ masks_below (c.args.distance / 4) 65536 = c.within-masks.ensures ∙ ap (λ d. masks_below (d / 4) 65536) c.bits.ensures.value in
    omega (
      arith,
      c.in_ok-tell_all.ensures.steps,
      c.in_err-tell_all-2.ensures.at_most,
      reads-gathered c.self.inside.first.rows c.self.inside.second.rows c.self.inside.third.rows c.self.inside.fourth.rows c.self.invariant c.args.word c.args.distance
          c.within-masks.result.now masks,
      ap (λ t. reads t.rows c.args.word c.args.distance) c.self.view_is,
    )

pub returns-in_err-tell_all-3-clause-at_most : goal.returns-in_err-tell_all-3-clause-at_most
returns-in_err-tell_all-3-clause-at_most g c =
    let masks : c.within-masks.result.now ≡ masks_below (c.args.distance / 4) 65536 = c.within-masks.ensures ∙ ap (λ d. masks_below (d / 4) 65536) c.bits.ensures.value in
    omega (
      arith,
      c.in_ok-tell_all.ensures.steps,
      c.in_ok-tell_all-2.ensures.steps,
      c.in_err-tell_all-3.ensures.at_most,
      reads-gathered c.self.inside.first.rows c.self.inside.second.rows c.self.inside.third.rows c.self.inside.fourth.rows c.self.invariant c.args.word c.args.distance
          c.within-masks.result.now masks,
      ap (λ t. reads t.rows c.args.word c.args.distance) c.self.view_is,
    )

pub returns-in_err-tell_all-4-clause-at_most : goal.returns-in_err-tell_all-4-clause-at_most
returns-in_err-tell_all-4-clause-at_most g c =
    let masks : c.within-masks.result.now ≡ masks_below (c.args.distance / 4) 65536 = c.within-masks.ensures ∙ ap (λ d. masks_below (d / 4) 65536) c.bits.ensures.value in
    omega (
      arith,
      c.in_ok-tell_all.ensures.steps,
      c.in_ok-tell_all-2.ensures.steps,
      c.in_ok-tell_all-3.ensures.steps,
      c.in_err-tell_all-4.ensures.at_most,
      reads-gathered c.self.inside.first.rows c.self.inside.second.rows c.self.inside.third.rows c.self.inside.fourth.rows c.self.invariant c.args.word c.args.distance
          c.within-masks.result.now masks,
      ap (λ t. reads t.rows c.args.word c.args.distance) c.self.view_is,
    )

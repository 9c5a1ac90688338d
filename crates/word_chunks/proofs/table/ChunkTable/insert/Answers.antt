use Rattle.std.proofs.Common.{◌≡◌, ◌∙◌, ◌+◌, ◌<◌, ◌==◌, cond, List, [], ◌∷◌, ◌++◌, length, get_or, ap, arith}
use Rattle.std.proofs.lemmas.Grind.{common_steps}
use Rattle.spare_tables.specs.Firsts.{of_first}
use Rattle.word_chunks.specs.Rows.{words_in}
use Rattle.word_chunks.proofs.Puts.{counted-put, length-of_first, length-put, of_first-put, words_in-put}
use Rattle.word_chunks.proofs.table.ChunkTable.insert.Goals as goal

pub overflow_add-index_mut : goal.overflow_add-index_mut
overflow_add-index_mut c =
    let inside : c.args.value < length c.self.inside.counts.items = omega (arith, c.ranges.value.fits, c.self.invariant.values) in
    let count : c.index_mut.result.now ≡ get_or c.self.inside.counts.items c.args.value 0 = grind (arith, common_steps, c.index_mut.ensures.value, inside) in
    omega (
      arith,
      count,
      c.self.invariant.counted c.args.value (omega (arith, c.ranges.value.fits)),
      length-of_first c.args.value c.self.inside.rows.rows,
      c.requires.few,
      ap (λ t. length t.rows) c.self.view_is,
    )

pub invariant_of-self : goal.invariant_of-self
invariant_of-self c =
    let inside : c.args.value < length c.self.inside.counts.items = omega (arith, c.ranges.value.fits, c.self.invariant.values) in
    let count : c.index_mut.result.now ≡ get_or c.self.inside.counts.items c.args.value 0 = grind (arith, common_steps, c.index_mut.ensures.value, inside) in
    rw (c.insert.ensures.rows, c.from.ensures, c.len-number.ensures.rows, count)
    (counted-put c.args.value c.args.word c.self.inside.rows.rows c.self.inside.counts.items (omega (arith, c.ranges.value.fits)) c.len-number.ensures.sorted c.self.invariant)

pub returns-clause-len : goal.returns-clause-len
returns-clause-len c =
    rw (c.insert.ensures.rows, c.from.ensures, c.len-number.ensures.rows)
    (length-put c.args.value (length c.self.inside.rows.rows) c.args.word c.self.inside.rows.rows c.self.invariant.numbered ∙ ap (λ t. length t.rows + 1) c.self.view_is)

pub returns-clause-values : goal.returns-clause-values
returns-clause-values c v =
    rw (c.insert.ensures.rows, c.from.ensures, c.len-number.ensures.rows)
    (of_first-put c.args.value (length c.self.inside.rows.rows) c.args.word c.self.inside.rows.rows c.len-number.ensures.sorted c.self.invariant.numbered v
    ∙ ap (λ t. of_first v t.rows ++ cond (c.args.value == v) (((c.args.value, length t.rows), c.args.word) ∷ []) []) c.self.view_is)

pub returns-clause-words : goal.returns-clause-words
returns-clause-words c =
    rw (c.insert.ensures.rows, c.from.ensures, c.len-number.ensures.rows)
    (words_in-put c.args.value c.args.word c.self.inside.rows.rows c.self.invariant.numbered ∙ ap (λ t. words_in t.rows ++ c.args.word ∷ []) c.self.view_is)

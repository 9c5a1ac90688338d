use Rattle.std.proofs.Common.{◌∙◌, ◌++◌, ◌∷◌, [], ap, sym, arith}
use Rattle.std.proofs.lemmas.List.FromFn.{map-range_with_len_more}
use Rattle.library_tables.proofs.Refolding.{file_of}
use Rattle.library_tables.proofs.numbers.all_files.Goals as goal

pub loop-number-preserved : goal.loop-number-preserved
loop-number-preserved c =
    c.in_ok-push.ensures.ok ∙ ap (λ list. list ++ file_of c.loop-number.number ∷ []) c.loop-number.invariant
    ∙ sym (map-range_with_len_more file_of 0 c.loop-number.number c.loop-number.number (omega arith))

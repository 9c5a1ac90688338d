-- Ascending files that are put in one by one.
use Rattle.std.proofs.Common.{◌≡◌, ℕ, ◌+◌, ◌<◌, true, List, length, take, get_or, sym, ◌∙◌, subst, arith}
use Rattle.std.specs.BTreeSet.{insert_key}
use Rattle.std.proofs.lemmas.List.{get_or-take, get_or_default, length-take-le, take_more}
use Rattle.media_types.specs.declared.numbers.FileNo.{FileNo}
use Rattle.spare_tables.specs.Order.{file_cmp}
use Rattle.tree_upkeep.specs.Queue.{Ascend}
use Rattle.tree_upkeep.specs.EndLaws.{at_end}
use Rattle.tree_upkeep.specs.PlaceLaws.{put_in}

ascend-take : (files : List FileNo) (n : ℕ) → n < length files → Ascend files → Ascend (take n files)
ascend-take files n within ascend = λ i j d before inside.
    let long = length-take-le n files (omega arith) in
    let less = ascend i j d before (omega arith) in
    subst (λ (f : FileNo). f.0 < (get_or (take n files) j d).0) (sym (get_or-take n files i d (omega arith)))
    (subst (λ (f : FileNo). (get_or files i d).0 < f.0) (sym (get_or-take n files j d (omega arith))) less)

-- the next of them comes behind those that were put in
pub next_put : (files : List FileNo) (n : ℕ) (d : FileNo) → n < length files → Ascend files → insert_key file_cmp (take n files) (get_or files n d) ≡ take (n + 1) files
next_put files n d within ascend =
    let file = get_or files n d in
    let long = length-take-le n files (omega arith) in
    put_in file (take n files) (ascend-take files n within ascend)
    ∙ at_end file true (take n files) (λ k e inside.
    let less = ascend k n e (omega arith) within in
    subst (λ (f : FileNo). (get_or (take n files) k e).0 < f.0) (get_or_default files n e d within)
    (subst (λ (f : FileNo). f.0 < (get_or files n e).0) (sym (get_or-take n files k e (omega arith))) less))
    ∙ sym (take_more files n d within)

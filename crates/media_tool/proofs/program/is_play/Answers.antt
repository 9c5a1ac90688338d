use Rattle.std.proofs.Common.{sym, ap, ◌∙◌}
use Rattle.std.specs.Prelude.{codes}
use Rattle.std.specs.Str.{bytes_eq}
use Rattle.std.proofs.lemmas.Slice.Eq.{bytes_eq-Decides}
use Rattle.media_tool.proofs.WordLists.{two_words, play_words_test}
use Rattle.media_tool.proofs.program.is_play.Goals as goal

pub returns-then-eq : goal.returns-then-eq
returns-then-eq c =
    let words = two_words c.args.words.now c.command-item.result c.path-item.result c.in-len2.len_at_least c.in-len2.len_below c.command-item.is c.path-item.is in
    let play = sym c.as_str.ensures.value ∙ (bytes_eq-Decides c.as_str.result.now (codes "play")).0 (sym c.eq.ensures ∙ c.if-eq.true) in
    play_words_test _ _ _ c.eq-then-eq.result words play (c.eq-then-eq.ensures ∙ ap (λ word. bytes_eq word (codes "-")) c.as_str-then-eq.ensures.value)

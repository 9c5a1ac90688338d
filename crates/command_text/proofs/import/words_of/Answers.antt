use Rattle.std.proofs.Common.{List, ◌+◌, rules, subst, sym}
use Rattle.media_types.specs.declared.hash.Hash64.{Hash64}
use Rattle.command_text.proofs.WordsRead.{AreReadTo, none_read, one_read, one_refused, all_read}
use Rattle.command_text.proofs.import.words_of.Goals as goal

pub loop-text-init : goal.loop-text-init
loop-text-init c =
    subst (λ (words : List Hash64). AreReadTo c.args.texts.now 0 words) (sym c.new-words.ensures) (none_read c.args.texts.now)

pub loop-text-preserved : goal.loop-text-preserved
loop-text-preserved c =
    subst (λ (words : List Hash64). AreReadTo c.args.texts.now (c.loop-text.text-index + 1) words) (sym c.in_ok-push.ensures.ok)
    (one_read c.args.texts.now c.loop-text.text-index _ _ c.loop-text-test.true c.in_ok-word_of.field-0 c.in_ok-word_of.ensures c.loop-text.invariant)

pub returns-in_err-word_of : goal.returns-in_err-word_of
returns-in_err-word_of c =
    let refused = one_refused c.args.texts.now c.loop-text.text-index _ _ c.loop-text-test.true c.in_err-word_of.field-0.0 c.in_err-word_of.ensures c.loop-text.invariant in
    search rules

pub returns : goal.returns
returns c = all_read c.args.texts.now c.loop-text.text-index _ c.loop-text-test.false c.loop-text.invariant

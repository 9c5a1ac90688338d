use Rattle.command_text.proofs.WordsRead.{AreReadTo}
use Rattle.command_text.proofs.import.words_of.Given as goal

abbrev pub invariant-loop-text : goal.invariant-loop-text
invariant-loop-text l = AreReadTo l.texts l.text-index l.words

use Rattle.std.proofs.Common.{◌≡◌, ◌≤◌, ◌<◌, take}
use Rattle.media_types.specs.declared.limits.TheConstants.{MAX_HASHES}
use Rattle.library_tables.specs.Imports.{words_planned}
use Rattle.library_tables.proofs.words.plan_words.Given as goal

abbrev pub invariant-loop-word : goal.invariant-loop-word
invariant-loop-word l = record {
  rows : l.tree.rows ≡ l.fn.tree.rows;
  plans : words_planned l.plans.items ≡ take l.word-index l.words;
  room : 0 < l.word-index → MAX_HASHES ≤ l.tree.spare;
}

use Rattle.std.proofs.Common.{length, ap, arith}
use Rattle.word_chunks.specs.Rows.{words_in}
use Rattle.word_chunks.proofs.Puts.{chunk-push, length-words_in}
use Rattle.word_chunks.proofs.words.WordChunks.insert.Goals as goal

pub invariant_of-self : goal.invariant_of-self
invariant_of-self c = record {
  few = omega (arith, c.insert.ensures.len, c.requires.few, ap (λ t. length t.rows) c.self.view_is, length-words_in c.self.inside.first.rows);
  by_first = rw c.insert.ensures.words
      (chunk-push 0 (words_in c.self.inside.first.rows) c.args.word c.chunk_of.result c.self.inside.first.rows c.insert.new.self.rows c.self.invariant.by_first
      c.chunk_of.ensures c.insert.ensures.len c.insert.ensures.values);
  by_second = rw c.insert.ensures.words
      (chunk-push 1 (words_in c.self.inside.first.rows) c.args.word c.chunk_of-2.result c.self.inside.second.rows c.insert-2.new.self.rows c.self.invariant.by_second
      c.chunk_of-2.ensures c.insert-2.ensures.len c.insert-2.ensures.values);
  by_third = rw c.insert.ensures.words
      (chunk-push 2 (words_in c.self.inside.first.rows) c.args.word c.chunk_of-3.result c.self.inside.third.rows c.insert-3.new.self.rows c.self.invariant.by_third
      c.chunk_of-3.ensures c.insert-3.ensures.len c.insert-3.ensures.values);
  by_fourth = rw c.insert.ensures.words
      (chunk-push 3 (words_in c.self.inside.first.rows) c.args.word c.chunk_of-4.result c.self.inside.fourth.rows c.insert-4.new.self.rows c.self.invariant.by_fourth
      c.chunk_of-4.ensures c.insert-4.ensures.len c.insert-4.ensures.values);
}

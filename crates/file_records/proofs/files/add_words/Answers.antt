use Rattle.std.proofs.Common.{arith}
use Rattle.file_records.proofs.WordTable.{put_more}
use Rattle.file_records.proofs.files.add_words.Goals as goal

pub loop-word-preserved : goal.loop-word-preserved
loop-word-preserved c =
    let new = c.args.new.now in
    record {
      words = put_more c.args.words.now.keys new c.loop-word.words.keys c.insert.new.self.keys c.loop-word.word-index (record { 0 = 0 })
          c.requires.distinct c.loop-word-test.true c.loop-word.invariant.words (rw c.unwrap-added.ensures at c.insert.ensures.keys);
      spare = omega (arith, c.loop-word.invariant.spare, c.insert.ensures.spare);
    }

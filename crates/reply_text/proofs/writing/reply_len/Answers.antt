use Rattle.std.proofs.Common.{arith}
use Rattle.reply_text.proofs.writing.reply_len.Goals as goal

pub returns : goal.returns
returns c = let counted = c.put_reply.ensures.counted (omega arith) in omega (arith, counted)

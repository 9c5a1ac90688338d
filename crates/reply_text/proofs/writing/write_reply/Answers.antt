use Rattle.reply_text.proofs.Sending.{sends_all}
use Rattle.reply_text.proofs.writing.write_reply.Goals as goal

pub returns-clause-sends : goal.returns-clause-sends
returns-clause-sends g c =
    sends_all _ _ _ _ _ _ _ c.new-gather.ensures c.in_ok-put_reply.ensures.gathers c.flush.ensures.sends

use Rattle.std.proofs.Common.{[], ◌∷◌}
use Rattle.reply_text.specs.ReplyText.{reply_text}
use Rattle.reply_text.proofs.writing.put_line.Goals as goal

pub returns-in_err-put_reply : goal.returns-in_err-put_reply
returns-in_err-put_reply g c =
    g.met.O.Out.stops _ _ _ _ (reply_text c.args.reply.now) (10 ∷ []) _ _ c.from_residual.ensures.0 c.in_err-put_reply.ensures

pub returns : goal.returns
returns g c =
    g.met.O.Out.both _ _ _ _ _ _ (reply_text c.args.reply.now) (10 ∷ []) _ c.in_ok-put_reply.ensures c.put.ensures

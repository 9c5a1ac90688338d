-- What a request is answered.
use Rattle.std.specs.Prelude.{Result}
use Rattle.media_base.specs.declared.refusal.Refusal.{Refusal}
use Rattle.media_base.specs.declared.reply.Answer.{Answer}

abbrev pub Reply : Type 0
Reply = Result Answer Refusal

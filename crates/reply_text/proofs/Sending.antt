-- What was gathered is written.
use Rattle.std.proofs.Common.{◌≡◌, ℕ, List, [], ◌++◌, Option, subst}
use Rattle.media_base.specs.Transfer.{Sends, Gathered}
use Rattle.media_base.specs.TransferLaws.{sends_gathered}
use Rattle.reply_text.specs.Putting.{Outcome}

-- all was gathered from nothing, and what is gathered is written
pub sends_all : (s t u : Option (List ℕ)) (held now text : List ℕ) (result : Outcome) → held ≡ [] → Gathered s held t now text → Sends t u now result → Sends s u text result
sends_all s t u held now text result none p q =
    subst (λ (start : List ℕ). Sends s u (start ++ text) result) none (sends_gathered s t u held now text result p q)

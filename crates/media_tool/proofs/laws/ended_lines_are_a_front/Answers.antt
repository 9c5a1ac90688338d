use Rattle.std.proofs.Common.{List, ℕ, [], sym, subst}
use Rattle.std.proofs.lemmas.List.{append-nil}
use Rattle.media_tool.specs.Run.{telling}
use Rattle.media_tool.specs.Session.{AnswersFront}
use Rattle.media_tool.proofs.Feeds.{ended_front}
use Rattle.media_tool.proofs.laws.ended_lines_are_a_front.Goals as goal

pub returns-clause-read_fault : goal.returns-clause-read_fault
returns-clause-read_fault g c = λ opening after given old new ended.
    let keepers = g.K.Keeper in
    let tells = telling keepers.kept keepers.alien keepers.faults keepers.used keepers.units keepers.limit in
    subst (λ (bytes : List ℕ). AnswersFront tells opening after bytes old new) (append-nil given) (ended_front opening after given [] old new ended)

pub returns-clause-too_long : goal.returns-clause-too_long
returns-clause-too_long g c = λ opening after given old new within.
    let keepers = g.K.Keeper in
    let tells = telling keepers.kept keepers.alien keepers.faults keepers.used keepers.units keepers.limit in
    subst (λ (bytes : List ℕ). AnswersFront tells opening after bytes old new) (sym within.split) (ended_front opening after within.front within.more old new within.answers)

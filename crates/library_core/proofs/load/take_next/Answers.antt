use Rattle.std.proofs.Common.{true, Ok, Err, refl}
use Rattle.library_core.proofs.Opened.{take_leads, take_bad}
use Rattle.library_core.proofs.load.take_next.Goals as goal

pub returns-in-Ready-clause-taken : goal.returns-in-Ready-clause-taken
returns-in-Ready-clause-taken g c = λ readings given told gives place reading there.
    let prepared = rw c.in-Ready.is at c.in_ok-plan.ensures.prepared in
    take_leads readings given reading c.in-Ok.change _ _ _
    (c.in-Ok.ensures.given readings given told gives place) there c.plan.ensures.records prepared.0 (c.commit.ensures.records _ prepared.2)

pub returns-in-Idle-clause-bad : goal.returns-in-Idle-clause-bad
returns-in-Idle-clause-bad g c = λ readings given told n gives place bad reading there.
    let prepared = rw c.in-Idle.is at c.in_ok-plan.ensures.prepared in
    take_bad readings given reading c.in-Ok.change _ _ (Ok true)
    (c.in-Ok.ensures.given readings given told gives place) there c.plan.ensures.records prepared.0 refl

pub returns-clause-bad : goal.returns-clause-bad
returns-clause-bad g c = λ readings given told n gives place bad reading there.
    let prepared = rw c.in-Refused.is at c.in_ok-plan.ensures.prepared in
    take_bad readings given reading c.in-Ok.change _ _ (Err _)
    (c.in-Ok.ensures.given readings given told gives place) there c.plan.ensures.records prepared refl

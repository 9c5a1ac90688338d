use Rattle.std.proofs.lemmas.Bool.{false≢true}
use Rattle.media_base.specs.declared.refusal.Refusal.TheVariants as refusals
use Rattle.media_tool.specs.Run.{telling}
use Rattle.media_tool.proofs.Rooms.{run_has_room}
use Rattle.media_tool.proofs.Runs.{run_keeps}
use Rattle.media_tool.proofs.laws.ready_keepers_keep_all.Goals as goal

pub returns-clause-room : goal.returns-clause-room
returns-clause-room g c =
    let keepers = g.K.Keeper in
    run_has_room (telling keepers.kept keepers.alien keepers.faults keepers.used keepers.units keepers.limit) (λ line read. false≢true (c.refusal_laws.ensures.no_other line refusals.JournalFull read))

pub returns-clause-kept : goal.returns-clause-kept
returns-clause-kept g c =
    let keepers = g.K.Keeper in
    run_keeps (telling keepers.kept keepers.alien keepers.faults keepers.used keepers.units keepers.limit) (λ line read. false≢true (c.refusal_laws.ensures.no_other line refusals.NotKept read))

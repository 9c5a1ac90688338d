use Rattle.std.proofs.lemmas.Bool.{false≢true}
use Rattle.media_base.specs.declared.refusal.Refusal.TheVariants as refusals
use Rattle.media_tool.specs.Run.{telling}
use Rattle.media_tool.proofs.Rooms.{told_within}
use Rattle.media_tool.proofs.laws.room_is_told.Goals as goal

pub returns : goal.returns
returns g c =
    let keepers = g.K.Keeper in
    told_within (telling keepers.kept keepers.alien keepers.faults keepers.used keepers.units keepers.limit) (λ line read. false≢true (c.refusal_laws.ensures.no_other line refusals.JournalFull read))

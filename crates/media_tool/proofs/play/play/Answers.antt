use Rattle.std.proofs.Common.{◌≡◌, ap, subst, ◌∙◌, arith}
use Rattle.media_base.specs.declared.status.Status.TheVariants as statuses
use Rattle.library_core.specs.Keeping.{LibraryView}
use Rattle.media_tool.specs.Run.{state_of, telling}
use Rattle.media_tool.specs.Session.{HasOpened, PlaysFrom}
use Rattle.media_tool.proofs.Plays.{load_unopened, plays_goes_on, plays_unopened, room_after}
use Rattle.media_tool.proofs.play.play.Goals as goal

pub returns-in-Ok-new-clause-plays : goal.returns-in-Ok-new-clause-plays
returns-in-Ok-new-clause-plays g c =
    let keepers = g.K.Keeper in
    let tells = telling keepers.kept keepers.alien keepers.faults keepers.used keepers.units keepers.limit in
    let left = g.S.Source.left in
    let taken = g.W.Sink.taken in
    let loaded = c.in-Ok.ensures in
    let library = c.in-Ok.library in
    let after = c.play_session-status.new.session.library in
    let status = c.play_session-status.result in
    let source = c.play_session-status.new.source in
    let sink = c.play_session-status.new.sink in
    let session = subst (λ (first : LibraryView g.row.K.Denot). PlaysFrom tells (state_of first) (state_of after) status (left c.args.source.now) (left source) (taken c.args.sink.now) (taken sink))
    c.in-Ok-new.ensures.library c.play_session-status.ensures.plays in
    let on = plays_goes_on tells status (state_of library) (state_of after) (left c.args.source.now) (left source) (taken c.args.sink.now) (taken sink) session in
    record {
      opening = state_of library;
      after = state_of after;
      session = session;
      last = c.release.ensures.keeper;
      own = λ opened. loaded.own;
      opens = λ opened. loaded.opened;
      desks = λ opened. loaded.no_desks;
      tree = λ opened. record { words = loaded.words; whole = loaded.whole; unmarked = loaded.unmarked };
      reopens = λ opened. c.release.ensures.opens;
      kept_first = loaded.kept;
      faults_first = loaded.later;
      room_first = λ opened. record { limit = loaded.same_limit; units = loaded.same_units };
      room_last = λ opened. room_after tells c.args.keeper c.release.result (state_of library) (state_of after) record { limit = loaded.same_limit; units = loaded.same_units } on c.release.ensures.keeper;
    }

pub returns-in-Ok-new-clause-later_store : goal.returns-in-Ok-new-clause-later_store
returns-in-Ok-new-clause-later_store g c =
    let keepers = g.K.Keeper in
    let tells = telling keepers.kept keepers.alien keepers.faults keepers.used keepers.units keepers.limit in
    let faults = keepers.faults in
    let opening = c.in-Ok-new.session.library in
    let after = c.play_session-status.new.session.library in
    let opened : faults opening.keeper ≡ faults c.in-Ok.library.keeper = ap (λ (library : LibraryView g.row.K.Denot). faults library.keeper) c.in-Ok-new.ensures.library in
    let on = plays_goes_on tells c.play_session-status.result (state_of opening) (state_of after) (g.S.Source.left c.args.source.now) (g.S.Source.left c.play_session-status.new.source)
    (g.W.Sink.taken c.args.sink.now) (g.W.Sink.taken c.play_session-status.new.sink) c.play_session-status.ensures.plays in
    let released : faults c.release.result ≡ faults after.keeper = ap faults c.release.ensures.keeper in
    omega (arith, c.in-Ok.ensures.later, opened, on.later, released)

-- there was no room for a line, and the library hands the keeper back
pub returns-in-Err-new-clause-plays : goal.returns-in-Err-new-clause-plays
returns-in-Err-new-clause-plays g c =
    let keepers = g.K.Keeper in
    let faults = keepers.faults in
    let back = c.release-in-Err-new.result in
    let same : back ≡ c.in-Ok.library.keeper = c.release-in-Err-new.ensures.keeper ∙ ap (λ (library : LibraryView g.row.K.Denot). library.keeper) c.in-Err-new.ensures.back in
    let failed : faults back ≡ faults c.in-Ok.library.keeper = ap faults same in
    plays_unopened (telling keepers.kept keepers.alien keepers.faults keepers.used keepers.units keepers.limit) statuses.NoMemory (keepers.gives c.args.keeper) c.args.keeper back (g.S.Source.left c.args.source.now) (g.W.Sink.taken c.args.sink.now)
    (λ opened. opened) (ap keepers.kept same ∙ c.in-Ok.ensures.kept) (omega (arith, c.in-Ok.ensures.later, failed))

pub returns-in-Err-clause-plays : goal.returns-in-Err-clause-plays
returns-in-Err-clause-plays g c =
    let keepers = g.K.Keeper in
    plays_unopened (telling keepers.kept keepers.alien keepers.faults keepers.used keepers.units keepers.limit) c.status_of.result (keepers.gives c.args.keeper) c.args.keeper c.in-Err.keeper (g.S.Source.left c.args.source.now) (g.W.Sink.taken c.args.sink.now)
    (λ opened. load_unopened c.in-Err.fail (subst HasOpened c.status_of.ensures opened)) c.in-Err.ensures.kept_fail c.in-Err.ensures.later_fail

-- A session over the pieces that its source gives.
use Rattle.std.proofs.Common.{◌≡◌, ◌⊎◌, ℕ, ◌+◌, ◌-◌, ◌<◌, ◌≤◌, List, [], ◌++◌, length, take, Option, refl, sym, ◌∙◌, subst, ⊎_elim, arith}
use Rattle.std.specs.Prelude.{◌↔◌}
use Rattle.std.proofs.lemmas.List.{length-append, length-take-le, append-nil}
use Rattle.media_base.specs.Keeping.{Readings}
use Rattle.media_base.specs.Transfer.{Gave, GaveFront, Took, TookFront}
use Rattle.media_base.specs.TransferLaws.{gave_none, gave_more, took_none, took_more, front_more}
use Rattle.media_base.specs.declared.status.Status.{Status}
use Rattle.media_base.specs.declared.status.Status.TheVariants as statuses
use Rattle.library_machine.specs.Records.{no_records}
use Rattle.library_machine.specs.Step.{at_opening}
use Rattle.library_core.specs.Done.{Telling}
use Rattle.media_tool.specs.Feeding.{FedKept, Stopped}
use Rattle.media_tool.specs.Kept.{Keeps}
use Rattle.media_tool.specs.Run.{SessionState}
use Rattle.library_core.specs.declared.load_fail.LoadFail.{LoadFail}
use Rattle.library_core.specs.declared.load_fail.LoadFail.TheVariants as fails
use Rattle.media_tool.specs.Session.{AnswersNothing, HasOpened, HasRun, HasSameRoom, Played, Plays, PlaysFrom, load_status}
use Rattle.media_tool.specs.declared.play.TheConstants.{MAX_INPUT}
use Rattle.media_tool.proofs.Feeds.{fed_nothing, fed_more, ends_early, ends_stopped, stopped_after}
use Rattle.media_tool.proofs.Kept.{keeps_nothing}
use Rattle.media_tool.proofs.Runs.{GoesOn, run_goes_on, unchanged}

-- These bytes were given so far and fed, so that these bytes are kept, and so many may still come.
pub record PlayedSoFar {K : Type 0} (tells : Telling K) (o : SessionState K) (room : ℕ) (m : SessionState K) (kept : List ℕ) (left now t u : Option (List ℕ)) : Type 0 where
  pub given : List ℕ
  pub gave : Gave left now given
  pub counted : length given + room ≡ MAX_INPUT
  pub fed : FedKept tells o [] given m kept (Took t u)

-- a status of a session that wasn't too long, over as many bytes as it may take
within_limit : (status : Status) (given : List ℕ) → (status ≡ statuses.InputTooLong → ⊥) → length given ≤ MAX_INPUT → (status ≡ statuses.InputTooLong) ↔ (MAX_INPUT < length given)
within_limit status given other within = (λ is. absurd (other is), λ past. absurd (omega (arith, past, within)))

pub load_unopened : (fail : LoadFail) → HasOpened (load_status fail) → ⊥
load_unopened fails.StoreFault opened = opened
load_unopened fails.NoMemory opened = opened
load_unopened (fails.BadStore n) opened = opened
load_unopened fails.AlienStore opened = opened

pub ran_of : (status : Status) → HasOpened status → HasRun status
ran_of statuses.Done opened = tt
ran_of statuses.ReadFault opened = tt
ran_of statuses.WriteFault opened = tt
ran_of statuses.InputTooLong opened = tt
ran_of statuses.Usage opened = opened
ran_of statuses.NoMemory opened = tt
ran_of statuses.StoreFault opened = opened
ran_of (statuses.BadStore n) opened = opened
ran_of statuses.AlienStore opened = opened

module _ {K : Type 0} {tells : Telling K} where
  pub so_far_start : (o : SessionState K) (kept : List ℕ) (left taken : Option (List ℕ)) → kept ≡ [] → PlayedSoFar tells o MAX_INPUT o kept left left taken taken
  so_far_start o kept left taken none = record {
    given = [];
    gave = gave_none left;
    counted = refl;
    fed = record { rest = []; keeps = keeps_nothing kept none; fed = fed_nothing o (Took taken taken) (took_none taken) };
  }

  -- what was fed, and then one more piece, whatever line these bytes were kept of
  fed_piece : (o : SessionState K) (given piece kept last : List ℕ) (m s : SessionState K) (t u v : Option (List ℕ)) → FedKept tells o [] given m kept (Took t u) → ((line : List ℕ) → Keeps kept line → FedKept tells m line piece s last (Took u v)) → FedKept tells o [] (given ++ piece) s last (Took t v)
  fed_piece o given piece kept last m s t u v p q =
      let next = q p.rest p.keeps in
      record { rest = next.rest; keeps = next.keeps; fed = fed_more o m s [] given p.rest piece next.rest (Took t u) (Took u v) (Took t v) (took_more t u v) p.fed next.fed }

  stopped_piece : (o : SessionState K) (given piece kept : List ℕ) (m s : SessionState K) (t u v : Option (List ℕ)) → FedKept tells o [] given m kept (Took t u) → ((line : List ℕ) → Keeps kept line → Stopped tells m line piece s (TookFront u v)) → Stopped tells o [] (given ++ piece) s (TookFront t v)
  stopped_piece o given piece kept m s t u v p q = stopped_after o m s [] given p.rest piece (Took t u) (TookFront u v) (TookFront t v) (front_more t u v) p.fed (q p.rest p.keeps)

  pub so_far_piece : (o : SessionState K) (room count : ℕ) (m s : SessionState K) (kept last chunk : List ℕ) (left now next t u v : Option (List ℕ)) → count ≤ room
      → PlayedSoFar tells o room m kept left now t u → GaveFront now next chunk count → ((line : List ℕ) → Keeps kept line → FedKept tells m line (take count chunk) s last (Took u v)) → PlayedSoFar tells o (room - count) s last left next t v
  so_far_piece o room count m s kept last chunk left now next t u v within p read q = record {
    given = p.given ++ take count chunk;
    gave = gave_more left now next p.given (take count chunk) p.gave read.gave;
    counted = omega (arith, p.counted, length-append p.given (take count chunk), length-take-le count chunk read.fits);
    fed = fed_piece o p.given (take count chunk) kept last m s t u v p.fed q;
  }

  -- the input ended, and what was left was answered or not
  pub plays_finish : (status : Status) (o : SessionState K) (room : ℕ) (m s : SessionState K) (kept chunk : List ℕ) (left now next t u v : Option (List ℕ)) → PlayedSoFar tells o room m kept left now t u → GaveFront now next chunk 0
      → (status ≡ statuses.Done) ⊎ (status ≡ statuses.WriteFault) → ((given : List ℕ) (taken : Option (List ℕ)) → FedKept tells o [] given m kept (Took taken u) → Played tells status o s given taken v) → PlaysFrom tells o s status left next t v
  plays_finish status o room m s kept chunk left now next t u v p read either ends = record {
    given = p.given ++ [];
    gave = gave_more left now next p.given [] p.gave read.gave;
    limit = within_limit status (p.given ++ []) (⊎_elim (λ is too_long. cc) (λ is too_long. cc) either) (omega (arith, p.counted, length-append p.given []));
    played = subst (λ (given : List ℕ). Played tells status o s given t v) (sym (append-nil p.given)) (ends p.given t p.fed);
  }

  -- the input failed
  pub plays_read_fault : (o : SessionState K) (room : ℕ) (m : SessionState K) (kept : List ℕ) (left now next t u : Option (List ℕ)) → PlayedSoFar tells o room m kept left now t u → next ≡ now → PlaysFrom tells o m statuses.ReadFault left next t u
  plays_read_fault o room m kept left now next t u p same = record {
    given = p.given;
    gave = subst (λ (rest : Option (List ℕ)). Gave left rest p.given) (sym same) p.gave;
    limit = within_limit statuses.ReadFault p.given (λ is. cc) (omega (arith, p.counted));
    played = ends_early o p.given m p.fed.rest t u p.fed.fed;
  }

  -- it stopped in a piece
  pub plays_write_fault : (o : SessionState K) (room count : ℕ) (m s : SessionState K) (kept chunk : List ℕ) (left now next t u v : Option (List ℕ)) → count ≤ room → PlayedSoFar tells o room m kept left now t u → GaveFront now next chunk count
      → ((line : List ℕ) → Keeps kept line → Stopped tells m line (take count chunk) s (TookFront u v)) → PlaysFrom tells o s statuses.WriteFault left next t v
  plays_write_fault o room count m s kept chunk left now next t u v within p read stopped = record {
    given = p.given ++ take count chunk;
    gave = gave_more left now next p.given (take count chunk) p.gave read.gave;
    limit = within_limit statuses.WriteFault (p.given ++ take count chunk) (λ is. cc) (omega (arith, p.counted, length-append p.given (take count chunk), length-take-le count chunk read.fits));
    played = ends_stopped o s (p.given ++ take count chunk) t v (stopped_piece o p.given (take count chunk) kept m s t u v p.fed stopped);
  }

  -- as many bytes came as a session takes, and then more
  pub plays_too_long : (o : SessionState K) (count : ℕ) (m : SessionState K) (kept chunk : List ℕ) (left now next t u : Option (List ℕ)) → 0 < count → PlayedSoFar tells o 0 m kept left now t u → GaveFront now next chunk count → PlaysFrom tells o m statuses.InputTooLong left next t u
  plays_too_long o count m kept chunk left now next t u some p read = record {
    given = p.given ++ take count chunk;
    gave = gave_more left now next p.given (take count chunk) p.gave read.gave;
    limit = (λ is. omega (arith, p.counted, some, length-append p.given (take count chunk), length-take-le count chunk read.fits), λ past. refl);
    played = record { front = p.given; more = take count chunk; split = refl; limit = omega (arith, p.counted); answers = ends_early o p.given m p.fed.rest t u p.fed.fed };
  }

module _ {K : Type 0} (tells : Telling K) where
  -- a session never counts the keeper's faults down, and leaves its room in all
  played_goes_on : (status : Status) (o s : SessionState K) (given : List ℕ) (t u : Option (List ℕ)) → Played tells status o s given t u → GoesOn tells o s
  played_goes_on statuses.Done o s given t u p = run_goes_on tells o s _ p.replies p.run
  played_goes_on statuses.ReadFault o s given t u p = run_goes_on tells o s _ p.replies p.run
  played_goes_on statuses.WriteFault o s given t u p = run_goes_on tells o s _ p.replies p.run
  played_goes_on statuses.NoMemory o s given t u p = unchanged tells o s p.same
  played_goes_on statuses.InputTooLong o s given t u p = run_goes_on tells o s _ p.answers.replies p.answers.run
  played_goes_on statuses.Usage o s given t u p = unchanged tells o s p.same
  played_goes_on statuses.StoreFault o s given t u p = unchanged tells o s p.same
  played_goes_on (statuses.BadStore n) o s given t u p = unchanged tells o s p.same
  played_goes_on statuses.AlienStore o s given t u p = unchanged tells o s p.same

  pub plays_goes_on : (status : Status) (o s : SessionState K) (left next t u : Option (List ℕ)) → PlaysFrom tells o s status left next t u → GoesOn tells o s
  plays_goes_on status o s left next t u p = played_goes_on status o s p.given t u p.played

  -- the room of the keeper that comes back
  pub room_after : (old new : K) (o s : SessionState K) → HasSameRoom tells old o.keeper → GoesOn tells o s → new ≡ s.keeper → HasSameRoom tells old new
  room_after old new o s first on last =
      subst (λ (keeper : K). HasSameRoom tells old keeper) (sym last) record { limit = on.room.limit ∙ first.limit; units = on.room.units ∙ first.units }

  -- ---- a library that didn't open

  nothing : (o : SessionState K) (taken : Option (List ℕ)) → AnswersNothing o o [] taken taken
  nothing o taken = record { none = refl; same = refl; took = refl }

  nothing_played : (status : Status) (o : SessionState K) (taken : Option (List ℕ)) → (HasOpened status → ⊥) → Played tells status o o [] taken taken
  nothing_played statuses.Done o taken unopened = absurd (unopened tt)
  nothing_played statuses.ReadFault o taken unopened = absurd (unopened tt)
  nothing_played statuses.WriteFault o taken unopened = absurd (unopened tt)
  nothing_played statuses.InputTooLong o taken unopened = absurd (unopened tt)
  nothing_played statuses.Usage o taken unopened = nothing o taken
  nothing_played statuses.NoMemory o taken unopened = nothing o taken
  nothing_played statuses.StoreFault o taken unopened = nothing o taken
  nothing_played (statuses.BadStore n) o taken unopened = nothing o taken
  nothing_played statuses.AlienStore o taken unopened = nothing o taken

  -- nothing was given or taken, for want of memory
  pub plays_nothing : (o : SessionState K) (left taken : Option (List ℕ)) → PlaysFrom tells o o statuses.NoMemory left left taken taken
  plays_nothing o left taken = record {
    given = [];
    gave = gave_none left;
    limit = within_limit statuses.NoMemory [] (λ is. cc) (omega arith);
    played = nothing o taken;
  }

  -- nothing was given, answered or taken
  pub plays_unopened : (status : Status) (gives : Option Readings) (old new : K) (left taken : Option (List ℕ)) → (HasOpened status → ⊥) → tells.kept new ≡ tells.kept old → tells.faults old ≤ tells.faults new
      → Plays tells gives old new status left left taken taken
  plays_unopened status gives old new left taken unopened same later =
      let at_rest : SessionState K = record { machine = at_opening no_records; tree = record { nodes = []; marks = [] }; keeper = new } in
      record {
        opening = at_rest;
        after = at_rest;
        session = record {
          given = [];
          gave = gave_none left;
          limit = within_limit status [] (λ is. unopened (subst HasOpened (sym is) tt)) (omega arith);
          played = nothing_played status at_rest taken unopened;
        };
        last = refl;
        own = λ opened. absurd (unopened opened);
        opens = λ opened. absurd (unopened opened);
        desks = λ opened. absurd (unopened opened);
        tree = λ opened. absurd (unopened opened);
        reopens = λ opened. absurd (unopened opened);
        kept_first = same;
        faults_first = later;
        room_first = λ opened. absurd (unopened opened);
        room_last = λ opened. absurd (unopened opened);
      }

-- What a whole session writes and keeps for the bytes that it was given.
use Rattle.std.specs.Prelude.{◌≡◌, ◌≢◌, ℕ, ◌<◌, ◌≤◌, ◌↔◌, true, List, [], ◌++◌, length, Option, Some, Ok}
use Rattle.media_base.specs.Keeping.{Readings}
use Rattle.media_base.specs.Replying.{Reply}
use Rattle.media_base.specs.Transfer.{Gave, Took, TookFront}
use Rattle.media_base.specs.declared.status.Status.{Status}
use Rattle.media_base.specs.declared.status.Status.TheVariants as statuses
use Rattle.library_machine.specs.Desks.{no_desks}
use Rattle.library_machine.specs.Opening.{opened}
use Rattle.library_core.specs.Done.{Telling}
use Rattle.library_core.specs.Keeping.{IsFresh}
use Rattle.library_core.specs.declared.load_fail.LoadFail.{LoadFail}
use Rattle.library_core.specs.declared.load_fail.LoadFail.TheVariants as fails
use Rattle.media_tool.specs.Lines.{Cut, with_rest}
use Rattle.media_tool.specs.Run.{Run, SessionState, text_of}
use Rattle.media_tool.specs.declared.play.TheConstants.{MAX_INPUT}

-- Nothing was given, answered or taken.
pub record AnswersNothing {K : Type 0} (opening after : SessionState K) (given : List ℕ) (old new : Option (List ℕ)) : Type 0 where
  pub none : given ≡ []
  pub same : after ≡ opening
  pub took : new ≡ old

-- A session over an open library ends so, where it has no room for a line or a read too.
abbrev pub HasRun : Status → Type 0
HasRun statuses.Usage = ⊥
HasRun statuses.StoreFault = ⊥
HasRun (statuses.BadStore n) = ⊥
HasRun statuses.AlienStore = ⊥
HasRun status = Unit {0}

-- The library opened and its lines were read, to one of these ends.
abbrev pub HasOpened : Status → Type 0
HasOpened statuses.Done = Unit {0}
HasOpened statuses.ReadFault = Unit {0}
HasOpened statuses.WriteFault = Unit {0}
HasOpened statuses.InputTooLong = Unit {0}
HasOpened statuses.Usage = ⊥
HasOpened statuses.NoMemory = ⊥
HasOpened statuses.StoreFault = ⊥
HasOpened (statuses.BadStore n) = ⊥
HasOpened statuses.AlienStore = ⊥

module _ {K : Type 0} (tells : Telling K) where
  -- Some of the lines of the bytes were answered, from one state to another, and the sink took something of
  -- the text.
  pub record Answers (opening after : SessionState K) (given : List ℕ) (some : List (List ℕ) → List ℕ → List (List ℕ)) (TookOf : List ℕ → Type 0) : Type 0 where
    pub lines : List (List ℕ)
    pub rest : List ℕ
    pub cut : Cut given lines rest
    pub replies : List Reply
    pub run : Run tells opening (some lines rest) replies after
    pub took : TookOf (text_of replies)

  -- All lines were answered, a last one without a line feed too, and the sink took the text.
  abbrev pub AnswersAll : SessionState K → SessionState K → List ℕ → Option (List ℕ) → Option (List ℕ) → Type 0
  AnswersAll opening after given old new = Answers opening after given with_rest (Took old new)

  -- The lines that a line feed ended were answered, and the sink took the text; a rest was not answered.
  abbrev pub AnswersEnded : SessionState K → SessionState K → List ℕ → Option (List ℕ) → Option (List ℕ) → Type 0
  AnswersEnded opening after given old new = Answers opening after given (λ lines rest. lines) (Took old new)

  -- The sink took a front of a text of all lines.
  abbrev pub AnswersFront : SessionState K → SessionState K → List ℕ → Option (List ℕ) → Option (List ℕ) → Type 0
  AnswersFront opening after given old new = Answers opening after given with_rest (TookFront old new)

  -- More bytes came than a session takes; the lines that ended within the limit were answered.
  pub record AnswersWithin (opening after : SessionState K) (given : List ℕ) (old new : Option (List ℕ)) : Type 0 where
    pub front : List ℕ
    pub more : List ℕ
    pub split : given ≡ front ++ more
    pub limit : length front ≡ MAX_INPUT
    pub answers : AnswersEnded opening after front old new

  -- What the sink took at each end of a session over the bytes given.
  abbrev pub Played : Status → SessionState K → SessionState K → List ℕ → Option (List ℕ) → Option (List ℕ) → Type 0
  Played statuses.Done opening after given old new = AnswersAll opening after given old new
  Played statuses.ReadFault opening after given old new = AnswersEnded opening after given old new
  Played statuses.WriteFault opening after given old new = AnswersFront opening after given old new
  Played statuses.NoMemory opening after given old new = AnswersNothing opening after given old new
  Played statuses.InputTooLong opening after given old new = AnswersWithin opening after given old new
  Played statuses.Usage opening after given old new = AnswersNothing opening after given old new
  Played statuses.StoreFault opening after given old new = AnswersNothing opening after given old new
  Played (statuses.BadStore n) opening after given old new = AnswersNothing opening after given old new
  Played statuses.AlienStore opening after given old new = AnswersNothing opening after given old new

  -- A session from one state to another: the source gave some bytes, the status says whether they passed the
  -- limit, and the sink took what the status promises for them.
  pub record PlaysFrom (opening after : SessionState K) (status : Status) (left_old left_new taken_old taken_new : Option (List ℕ)) : Type 0 where
    pub given : List ℕ
    pub gave : Gave left_old left_new given
    pub limit : (status ≡ statuses.InputTooLong) ↔ (MAX_INPUT < length given)
    pub played : Played status opening after given taken_old taken_new

  -- There is as much room in all, and each change takes as much of it.
  pub record HasSameRoom (old new : K) : Type 0 where
    pub limit : tells.limit new ≡ tells.limit old
    pub units : tells.units new ≡ tells.units old

  -- A session over a keeper, which comes back. Where the library opens, it begins with the records that the
  -- keeper's changes open, no desk, and the tree that is built of all words and has no mark; and the keeper then keeps what the replies say: its changes open the
  -- records that the session ends with.
  pub record Plays (gives : Option Readings) (old new : K) (status : Status) (left_old left_new taken_old taken_new : Option (List ℕ)) : Type 0 where
    pub opening : SessionState K
    pub after : SessionState K
    pub session : PlaysFrom opening after status left_old left_new taken_old taken_new
    pub last : new ≡ after.keeper
    pub own : HasOpened status → tells.alien old ≢ Some true
    pub opens : HasOpened status → (readings : Readings) → gives ≡ Some readings → opened readings ≡ Ok opening.machine.kept
    pub desks : HasOpened status → opening.machine.desks ≡ no_desks
    pub tree : HasOpened status → IsFresh opening.tree opening.machine.kept
    pub reopens : HasOpened status → (readings : Readings) → tells.kept new ≡ Some readings → opened readings ≡ Ok after.machine.kept
    pub kept_first : tells.kept opening.keeper ≡ tells.kept old
    pub faults_first : tells.faults old ≤ tells.faults opening.keeper
    pub room_first : HasOpened status → HasSameRoom old opening.keeper
    pub room_last : HasOpened status → HasSameRoom old new

-- how a session ends whose library doesn't open
abbrev pub load_status : LoadFail → Status
load_status fails.StoreFault = statuses.StoreFault
load_status fails.NoMemory = statuses.NoMemory
load_status (fails.BadStore n) = statuses.BadStore n
load_status fails.AlienStore = statuses.AlienStore

-- What holds of each step of the machine.
use Rattle.std.specs.Prelude.{◌≡◌, ◌≢◌, ◌<◌, ◌↔◌, ℕ, true, false, List, [], Some, None, Ok, Err, length}
use Rattle.media_types.specs.declared.limits.TheConstants.{MAX_NEAR}
use Rattle.media_types.specs.declared.numbers.FileNo.{FileNo}
use Rattle.media_types.specs.declared.searching.Searching.{Searching}
use Rattle.media_base.specs.declared.change.Change.{Change}
use Rattle.media_base.specs.declared.change.Change.TheVariants as changes
use Rattle.media_base.specs.declared.command.Caller.{Caller}
use Rattle.media_base.specs.declared.command.Command.{Command}
use Rattle.media_base.specs.declared.command.Command.TheVariants as commands
use Rattle.media_base.specs.declared.command.Job.TheVariants as jobs
use Rattle.media_base.specs.declared.refusal.Refusal.{Refusal}
use Rattle.media_base.specs.declared.refusal.Unmet.{Unmet}
use Rattle.media_base.specs.declared.refusal.Unmet.TheVariants as whys
use Rattle.media_base.specs.Replying.{Reply}
use Rattle.file_records.specs.Living.{is_live}
use Rattle.file_records.specs.Near.{near_pairs}
use Rattle.library_machine.specs.Asking.{query_needs}
use Rattle.library_machine.specs.Changing.{does, needs}
use Rattle.library_machine.specs.Effects.{effect}
use Rattle.library_machine.specs.Guards.{IsFirstUnmet}
use Rattle.library_machine.specs.Jobs.{makes, worked_out}
use Rattle.library_machine.specs.Needs.{Need, Met, unmet}
use Rattle.library_machine.specs.Opening.{after_change}
use Rattle.library_machine.specs.Records.{Records, Fits}
use Rattle.library_machine.specs.Searches.{after_search, next_search, risen}
use Rattle.library_machine.specs.Step.{State, Answered, after_step, change_of, refused, reply_of, step}

-- a refused command leaves the state as it was
abbrev pub RefusalsChangeNothing : Type 0
RefusalsChangeNothing = (s : State) (caller : Caller) (command : Command) (why : Refusal) →
    reply_of (step s caller command) ≡ Err why → after_step s caller command ≡ s

-- and so does whatever refusal is answered
abbrev pub RefusedAnswersChangeNothing : Type 0
RefusedAnswersChangeNothing = (s : State) (caller : Caller) (command : Command) (why : Refusal) (new : State) →
    Answered s (step s caller command) (Err why) new → new ≡ s

-- a step has a change exactly where it leaves other records
abbrev pub ChangesAreTold : Type 0
ChangesAreTold = (s : State) (caller : Caller) (command : Command) →
    (change_of (step s caller command) ≡ None) ↔ ((after_step s caller command).kept ≡ s.kept)

-- the change of a step leads to the records of the step
abbrev pub ChangesLead : Type 0
ChangesLead = (s : State) (caller : Caller) (command : Command) (change : Change) →
    change_of (step s caller command) ≡ Some change → after_change s.kept change ≡ Some (after_step s caller command).kept

-- that a change wasn't kept is answered only where the step has one
pub record WantsChange (why : Refusal) : Type 0 where
  pub changes : (s : State) (caller : Caller) (command : Command) (new : State) →
      Answered s (step s caller command) (Err why) new → change_of (step s caller command) ≢ None

-- records that fit still fit after a step
abbrev pub StepsKeepFit : Type 0
StepsKeepFit = (s : State) (caller : Caller) (command : Command) → Fits s.kept → Fits (after_step s caller command).kept

-- and after whatever is answered
abbrev pub AnswersKeepFit : Type 0
AnswersKeepFit = (s : State) (caller : Caller) (command : Command) (reply : Reply) (new : State) →
    Answered s (step s caller command) reply new → Fits s.kept → Fits new.kept

-- and after a change that is made, where its needs are met and it isn't idle
abbrev pub ChangesKeepFit : Type 0
ChangesKeepFit = (r : Records) (change : Change) → does r change ≡ Ok false → Fits r → Fits (effect r change)

-- and such a change leaves other records
abbrev pub ChangesDiffer : Type 0
ChangesDiffer = (r : Records) (change : Change) → does r change ≡ Ok false → effect r change ≢ r

-- what is told for the first of these needs that isn't met
abbrev pub Lacks : Records → List Need → Unmet → Type 0
Lacks r needed why = IsFirstUnmet (Met r) (unmet r) needed why

-- Why a command is refused: for the first of its needs that isn't met, or of the needs of the change that its job
-- works out. Upkeep is never refused.
abbrev pub Refuses : Records → Command → Unmet → Type 0
Refuses r (commands.Ask q) why = Lacks r (query_needs q) why
Refuses r (commands.Do c) why = Lacks r (needs c) why
Refuses r (commands.Run j) why = (c : Change) × (worked_out r j ≡ makes c) × Lacks r (needs c) why
Refuses r (commands.Tend u) why = ⊥

-- exactly so the step refuses
abbrev pub RefusalsHaveCauses : Type 0
RefusalsHaveCauses = (s : State) (caller : Caller) (command : Command) (why : Unmet) →
    (step s caller command ≡ refused why) ↔ Refuses s.kept command why

-- By the search some file's searched distance rises, and more pairs are near after it than a library holds.
abbrev pub FindsTooMany : Records → Searching → Type 0
FindsTooMany r s = (risen r s ≢ []) × (MAX_NEAR < length (near_pairs (after_search r s).files))

-- A search of the next files of the queue is refused only where it finds too many near pairs: its files are there.
abbrev pub JobsLackRoomAlone : Type 0
JobsLackRoomAlone = (s : State) (caller : Caller) (n : ℕ) (why : Unmet) →
    (step s caller (commands.Run (jobs.Search n)) ≡ refused why)
    ↔ ((why ≡ whys.FullNear) × FindsTooMany s.kept (next_search s.kept n))

-- A live file that is deleted comes back with all that was recorded of it, and all else as it was.
abbrev pub DeletionsAreTakenBack : Type 0
DeletionsAreTakenBack = (s : State) (caller : Caller) (file : FileNo) → is_live s.kept.files file.0 ≡ true →
    after_step (after_step s caller (commands.Do (changes.Live file false))) caller (commands.Do (changes.Live file true)) ≡ s

-- How outcomes are answered and kept, by their kinds: once for all commands and keepers.
use Rattle.std.proofs.Common.{◌≡◌, ◌≢◌, ◌⊎◌, ◌≤◌, ◌+◌, inl, inr, Bool, true, false, Option, None, IsSome, option_map, Result, Ok, Err, arith, refl, ap, subst, sym, ◌∙◌}
use Rattle.media_types.specs.Cause.{Rose}
use Rattle.media_base.specs.declared.change.Change.{Change}
use Rattle.media_base.specs.declared.command.Caller.{Caller}
use Rattle.media_base.specs.declared.command.Caller.TheVariants.{Console}
use Rattle.media_base.specs.declared.command.Command.{Command}
use Rattle.media_base.specs.declared.keeper.PutFault.{PutFault}
use Rattle.media_base.specs.declared.keeper.PutFault.TheVariants as faults
use Rattle.media_base.specs.declared.refusal.Refusal.{Refusal}
use Rattle.media_base.specs.declared.refusal.Refusal.TheVariants as refusals
use Rattle.media_base.specs.declared.refusal.Unmet.{Unmet}
use Rattle.media_base.specs.declared.reply.Answer.{Answer}
use Rattle.media_base.specs.Keeping.{with_change}
use Rattle.media_base.specs.Replying.{Reply}
use Rattle.vp_tree.specs.Marking.{MarkedTree}
use Rattle.library_machine.specs.Changing.{does, answer_to}
use Rattle.library_machine.specs.Effects.{effect}
use Rattle.library_machine.specs.Desks.{no_desks}
use Rattle.library_machine.specs.Opening.{kept_with}
use Rattle.library_machine.specs.Records.{Records}
use Rattle.library_machine.specs.Step.{State, Outcome, refused, told, changed, change_of, by_change, made, by_answer, admitted, step, step_of, Answered, by_step, no_memory, journal_full, not_kept}
use Rattle.library_core.specs.Done.{Telling, IsDone, HasNoRoom}
use Rattle.library_core.specs.Faults.{put_refusal}
use Rattle.library_core.specs.Keeping.{LibraryView}

-- nothing is put where there is no change
unput : {K : Type 0} (t : Telling K) (s new : State) (keeper : K) (o : Outcome) (reply : Reply) → Answered s o reply new →
    change_of o ≡ None → reply ≢ Err refusals.JournalFull → reply ≢ Err refusals.NotKept → IsDone t s keeper o reply new keeper
unput t s new keeper o reply answered none room kept = record {
  answered = answered;
  kept = ap (λ (c : Option Change). kept_with c reply (t.kept keeper)) (sym none);
  full = λ e. absurd (room e);
  no_room = λ c some. absurd (cc (none, some));
  same_limit = refl;
  same_units = refl;
  used = λ c answer some. absurd (cc (none, some));
  told_used = λ e. refl;
  same_used = λ why e. refl;
  later = omega arith;
  not_kept = λ e. absurd (kept e);
  own = refl;
}

refused_done : {K : Type 0} (t : Telling K) (s : State) (keeper : K) (why : Unmet) →
    IsDone t s keeper (refused why) (Err (refusals.Unmet why)) s keeper
refused_done t s keeper why = unput t s s keeper (refused why) _ (by_step refl refl) refl (λ e. cc e) (λ e. cc e)

told_done : {K : Type 0} (t : Telling K) (s : State) (keeper : K) (answer : Answer) →
    IsDone t s keeper (told s.desks answer) (Ok answer) s keeper
told_done t s keeper answer = unput t s s keeper (told s.desks answer) _ (by_step refl refl) refl (λ e. cc e) (λ e. cc e)

-- what a keeper tells that keeps a change
pub record IsKept {K : Type 0} (t : Telling K) (old new : K) (c : Change) : Type 0 where
  pub kept : t.kept new ≡ option_map (with_change c) (t.kept old)
  pub room : t.used old + t.units old c ≤ t.limit old
  pub used : t.used new ≡ t.used old + t.units old c
  pub limit : t.limit new ≡ t.limit old
  pub units : t.units new ≡ t.units old
  pub later : t.faults old ≤ t.faults new
  pub own : t.alien new ≡ t.alien old

changed_done : {K : Type 0} (t : Telling K) (s : State) (old new : K) (c : Change) (answer : Answer) → IsKept t old new c →
    IsDone t s old (changed c s.desks answer) (Ok answer) (record s { kept = effect s.kept c }) new
changed_done t s old new c answer is = record {
  answered = by_step refl refl;
  kept = is.kept;
  full = λ e. absurd (cc e);
  no_room = λ d some lt.
      let same : c ≡ d = cc some in
      let here = subst (λ (one : Change). HasNoRoom t old one) (sym same) lt in
      let none : ⊥ = omega (arith, is.room, here) in absurd none;
  same_limit = is.limit;
  same_units = is.units;
  used = λ d one some e. let same : c ≡ d = cc some in is.used ∙ ap (λ (k : Change). t.used old + t.units old k) same;
  told_used = λ none. absurd (cc none);
  same_used = λ why e. absurd (cc e);
  later = is.later;
  not_kept = λ e. absurd (cc e);
  own = is.own;
}

-- what a fault of the keeper tells
pub record IsFault {K : Type 0} (t : Telling K) (old new : K) (c : Change) (fault : PutFault) : Type 0 where
  pub kept : t.kept new ≡ t.kept old
  pub full : fault ≡ faults.Full → HasNoRoom t old c
  pub room_failed : fault ≡ faults.Failed → t.used old + t.units old c ≤ t.limit old
  pub used : t.used new ≡ t.used old
  pub limit : t.limit new ≡ t.limit old
  pub units : t.units new ≡ t.units old
  pub later : t.faults old ≤ t.faults new
  pub rose : fault ≡ faults.Failed → Rose (t.faults old) (t.faults new)
  pub own : t.alien new ≡ t.alien old

abbrev failing : PutFault → Reply
failing fault = Err (put_refusal fault)

fault_answered : (s : State) (o : Outcome) (fault : PutFault) → IsSome (change_of o) → Answered s o (failing fault) s
fault_answered s o faults.Failed some = not_kept some refl refl
fault_answered s o faults.NoMemory some = no_memory refl refl
fault_answered s o faults.Full some = journal_full some refl refl

fault_full : (fault : PutFault) (P : Type 0) → (fault ≡ faults.Full → P) → failing fault ≡ Err refusals.JournalFull → P
fault_full faults.Failed P is e = absurd (cc e)
fault_full faults.NoMemory P is e = absurd (cc e)
fault_full faults.Full P is e = is refl

fault_failed : (fault : PutFault) (P : Type 0) → (fault ≡ faults.Failed → P) → failing fault ≡ Err refusals.NotKept → P
fault_failed faults.Failed P is e = is refl
fault_failed faults.NoMemory P is e = absurd (cc e)
fault_failed faults.Full P is e = absurd (cc e)

fault_no_room : (fault : PutFault) → fault ≢ faults.Failed →
    (failing fault ≡ Err refusals.NoMemory) ⊎ (failing fault ≡ Err refusals.JournalFull)
fault_no_room faults.Failed never = absurd (never refl)
fault_no_room faults.NoMemory never = inl refl
fault_no_room faults.Full never = inr refl

-- a change that isn't kept
unkept_done : {K : Type 0} (t : Telling K) (s : State) (old new : K) (c : Change) (answer : Answer) (fault : PutFault) →
    IsFault t old new c fault → IsDone t s old (changed c s.desks answer) (failing fault) s new
unkept_done t s old new c answer fault is = record {
  answered = fault_answered s (changed c s.desks answer) fault refl;
  kept = is.kept;
  full = λ e d some. let same : c ≡ d = cc some in subst (λ (one : Change). HasNoRoom t old one) same (fault_full fault _ is.full e);
  no_room = λ d some lt.
      let same : c ≡ d = cc some in
      let here = subst (λ (one : Change). HasNoRoom t old one) (sym same) lt in
      fault_no_room fault (λ failed. let room = is.room_failed failed in omega (arith, room, here));
  same_limit = is.limit;
  same_units = is.units;
  used = λ d one some e. absurd (cc e);
  told_used = λ none. absurd (cc none);
  same_used = λ why e. is.used;
  later = is.later;
  not_kept = λ e. fault_failed fault _ is.rose e;
  own = is.own;
}

-- ---- a change, as the tables of a library prepared it

abbrev pub seen : {K : Type 0} → Records → MarkedTree → K → LibraryView K
seen r tree keeper = record { state = record { kept = r; desks = no_desks }; tree = tree; keeper = keeper }

abbrev IsMade : {K : Type 0} → Telling K → LibraryView K → Change → Reply → Records → K → Type 0
IsMade t l c reply new keeper =
    IsDone t l.state l.keeper (made l.state.kept l.state.desks c) reply (record { kept = new; desks = no_desks }) keeper

-- the records of the tables are those before the plan, which contracts see of the library
module _ {K : Type 0} (t : Telling K) (l : LibraryView K) (r before : Records) (tree : MarkedTree) (old : K) (view : seen before tree old ≡ l) (same : r ≡ before) (c : Change) where
  at_view : (reply : Reply) (new : Records) (keeper : K) → IsMade t (seen r tree old) c reply new keeper → IsMade t l c reply new keeper
  at_view reply new keeper this =
      subst (λ (m : LibraryView K). IsMade t m c reply new keeper) view
      (subst (λ (q : Records). IsMade t (seen q tree old) c reply new keeper) same this)

  abbrev s : State
  s = (seen r tree old).state

  by_done : (done : Result Bool Unmet) (reply : Reply) (new : Records) (keeper : K) → does r c ≡ done →
      IsDone t s old (by_change r no_desks c done) reply (record { kept = new; desks = no_desks }) keeper → IsMade t l c reply new keeper
  by_done done reply new keeper is this =
      at_view reply new keeper
      (subst (λ (d : Result Bool Unmet). IsDone t s old (by_change r no_desks c d) reply (record { kept = new; desks = no_desks }) keeper) (sym is) this)

  pub make_refused : (why : Unmet) → does r c ≡ Err why → IsMade t l c (Err (refusals.Unmet why)) r old
  make_refused why is = by_done (Err why) _ r old is (refused_done t s old why)

  pub make_idle : (answer : Answer) → does r c ≡ Ok true → answer_to r c ≡ answer → IsMade t l c (Ok answer) r old
  make_idle answer is gave =
      subst (λ (a : Answer). IsMade t l c (Ok a) r old) gave (by_done (Ok true) _ r old is (told_done t s old (answer_to r c)))

  pub make_ready : (new : Records) (keeper : K) (answer : Answer) → does r c ≡ Ok false → answer_to r c ≡ answer → new ≡ effect r c →
      IsKept t old keeper c → IsMade t l c (Ok answer) new keeper
  make_ready new keeper answer is gave leads kept =
      subst (λ (q : Records). IsMade t l c (Ok answer) q keeper) (sym leads)
      (subst (λ (a : Answer). IsMade t l c (Ok a) (effect r c) keeper) gave
      (by_done (Ok false) _ (effect r c) keeper is (changed_done t s old keeper c (answer_to r c) kept)))

  pub make_fault : (new : Records) (keeper : K) (why : Refusal) (fault : PutFault) → does r c ≡ Ok false → new ≡ r →
      why ≡ put_refusal fault → IsFault t old keeper c fault → IsMade t l c (Err why) new keeper
  make_fault new keeper why fault is back gave failed =
      subst (λ (q : Records). IsMade t l c (Err why) q keeper) (sym back)
      (subst (λ (w : Refusal). IsMade t l c (Err w) r keeper) (sym gave)
      (by_done (Ok false) _ r keeper is (unkept_done t s old keeper c (answer_to r c) fault failed)))

-- ---- what is asked

pub ask_told : {K : Type 0} (t : Telling K) (s : State) (keeper : K) (asked : Result Answer Unmet) (answer : Answer) → asked ≡ Ok answer →
    IsDone t s keeper (by_answer s.desks asked) (Ok answer) s keeper
ask_told t s keeper asked answer is =
    subst (λ (a : Result Answer Unmet). IsDone t s keeper (by_answer s.desks a) (Ok answer) s keeper) (sym is) (told_done t s keeper answer)

pub ask_refused : {K : Type 0} (t : Telling K) (s : State) (keeper : K) (asked : Result Answer Unmet) (why : Unmet) → asked ≡ Err why →
    IsDone t s keeper (by_answer s.desks asked) (Err (refusals.Unmet why)) s keeper
ask_refused t s keeper asked why is =
    subst (λ (a : Result Answer Unmet). IsDone t s keeper (by_answer s.desks a) (Err (refusals.Unmet why)) s keeper) (sym is) (refused_done t s keeper why)

-- ---- who asks: there is no other caller yet

pub admits : (s : State) (caller : Caller) (command : Command) → step_of s command ≡ step s caller command
unfolding step admitted
admits s Console command = refl

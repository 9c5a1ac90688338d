-- Exactly why a command is refused: by the kinds of commands, once for all.
use Rattle.std.proofs.Common.{◌≡◌, ◌↔◌, inl, inr, Bool, true, false, if◌then◌else◌, Result, Ok, Err, List, [], length, arith, refl, ap, sym, subst, ◌∙◌}
use Rattle.std.specs.List.{All}
use Rattle.std.proofs.lemmas.Bool.{cases_lt}
use Rattle.std.proofs.lemmas.List.Elements.{All-take}
use Rattle.media_types.specs.declared.limits.TheConstants.{MAX_NEAR}
use Rattle.media_types.specs.declared.numbers.FileNo.{FileNo}
use Rattle.media_types.specs.declared.searching.Searching.{Searching}
use Rattle.media_base.specs.declared.change.Change.{Change}
use Rattle.media_base.specs.declared.change.Change.TheVariants as changes
use Rattle.media_base.specs.declared.command.Caller.TheVariants.{Console}
use Rattle.media_base.specs.declared.command.Command.{Command}
use Rattle.media_base.specs.declared.command.Command.TheVariants as commands
use Rattle.media_base.specs.declared.command.Job.TheVariants as jobs
use Rattle.media_base.specs.declared.refusal.Unmet.{Unmet}
use Rattle.media_base.specs.declared.refusal.Unmet.TheVariants as whys
use Rattle.media_base.specs.declared.reply.Answer.{Answer}
use Rattle.file_records.specs.Near.{near_pairs}
use Rattle.file_records.specs.Searching.{rising}
use Rattle.file_records.specs.QueueLaws.{queue_known}
use Rattle.file_records.specs.SearchLaws as searches
use Rattle.library_machine.specs.Asking.{answer, query_needs}
use Rattle.library_machine.specs.Changing.{does, is_idle, needs}
use Rattle.library_machine.specs.Desks.{Desks}
use Rattle.library_machine.specs.Jobs.{Deed, tells, makes, worked_out}
use Rattle.library_machine.specs.Laws.{FindsTooMany, JobsLackRoomAlone, Lacks, Refuses, RefusalsHaveCauses}
use Rattle.library_machine.specs.Needs.{Met, is_met, room_for_near, unmet}
use Rattle.library_machine.specs.Records.{Records, IsThere}
use Rattle.library_machine.specs.Searches.{after_search, counts, is_empty, next_search, search_queue}
use Rattle.library_machine.specs.Step.{State, refused, by_change, made, by_answer, by_deed, step_of, admitted, step}
use Rattle.library_machine.specs.MeetingLaws.{means, first_refuses, none_there}

-- a refusal is one of these, and no other
same_why : (x y : Unmet) → refused x ≡ refused y → x ≡ y
same_why x y e = cc e

by_done : (r : Records) (desks : Desks) (c : Change) (done : Result Bool Unmet) (why : Unmet) → (by_change r desks c done ≡ refused why) ↔ (done ≡ Err why)
by_done r desks c (Err one) why = (λ e. ap Err (same_why _ _ e), λ e. ap (by_change r desks c) e)
by_done r desks c (Ok true) why = (λ e. absurd (cc e), λ e. absurd (cc e))
by_done r desks c (Ok false) why = (λ e. absurd (cc e), λ e. absurd (cc e))

made_refused : (r : Records) (desks : Desks) (c : Change) (why : Unmet) → (made r desks c ≡ refused why) ↔ Lacks r (needs c) why
made_refused r desks c why =
    let a = by_done r desks c (does r c) why in
    let b = first_refuses (is_met r) (Met r) (unmet r) (means r) (needs c) (is_idle r c) why in
    (λ e. b.0 (a.0 e), λ p. a.1 (b.1 p))

by_result : (desks : Desks) (result : Result Answer Unmet) (why : Unmet) → (by_answer desks result ≡ refused why) ↔ (result ≡ Err why)
by_result desks (Ok answer) why = (λ e. absurd (cc e), λ e. absurd (cc e))
by_result desks (Err one) why = (λ e. ap Err (same_why _ _ e), λ e. ap (by_answer desks) e)

job_refused : (r : Records) (desks : Desks) (deed : Deed) (why : Unmet) →
    (by_deed r desks deed ≡ refused why) ↔ ((c : Change) × (deed ≡ makes c) × Lacks r (needs c) why)
job_refused r desks (tells answer) why = (λ e. absurd (cc e), λ q. absurd (cc q.1))
job_refused r desks (makes c) why = (
  λ e. (c, refl, (made_refused r desks c why).0 e),
  λ q. let same : c ≡ q.0 = cc q.1 in
      (made_refused r desks c why).1 (subst (λ (d : Change). Lacks r (needs d) why) (sym same) q.2),
)

step_refused : (s : State) (command : Command) (why : Unmet) → (step_of s command ≡ refused why) ↔ Refuses s.kept command why
step_refused s (commands.Ask q) why =
    let r = s.kept in
    let a = by_result s.desks _ why in
    let b = first_refuses (is_met r) (Met r) (unmet r) (means r) (query_needs q) (answer r q) why in
    (λ e. b.0 (a.0 e), λ p. a.1 (b.1 p))
step_refused s (commands.Do c) why = made_refused s.kept s.desks c why
step_refused s (commands.Run j) why = job_refused s.kept s.desks (worked_out s.kept j) why
step_refused s (commands.Tend u) why = (λ e. absurd (cc e), λ none. absurd none)

pub refusals_have_causes : RefusalsHaveCauses
unfolding step admitted
refusals_have_causes s Console command why = step_refused s command why

-- ---- a search of the next files of the queue

module _ (r : Records) (s : Searching) (why : Unmet) where
  too_many : ¬ Met r (room_for_near s) → FindsTooMany r s
  too_many full = (
    λ none. full (inl none),
    elim (cases_lt MAX_NEAR (length (near_pairs (after_search r s).files))) [ inl lt ↦ lt | inr le ↦ absurd (full (inr le)) ],
  )

  few_enough : FindsTooMany r s → ¬ Met r (room_for_near s)
  few_enough many (inl none) = many.0 none
  few_enough many (inr few) = let over = many.1 in omega arith

  -- a search of files that are there
  search_refused : All (IsThere r) s.files → Lacks r (needs (changes.Searched s)) why ↔ ((why ≡ whys.FullNear) × FindsTooMany r s)
  unfolding needs
  search_refused there = (
    λ p. elim p [
      | inl lacks ↦ absurd (lacks.0 there)
      | inr q ↦ elim q.1 [ inl full ↦ (sym full.1, too_many full.0) | inr none ↦ absurd none.1 ]
    ],
    λ q. inr (there, inl (few_enough q.1, sym q.0)),
  )

  Worked : Bool → Type 0
  Worked nothing = (c : Change) × ((if nothing then tells (counts [] r) else makes (changes.Searched s)) ≡ makes c) × Lacks r (needs c) why

  worked_refused : All (IsThere r) s.files → (nothing : Bool) → is_empty s.files ≡ nothing →
      Worked nothing ↔ ((why ≡ whys.FullNear) × FindsTooMany r s)
  unfolding Worked
  worked_refused there true is = (
    λ q. absurd (cc q.1),
    λ q.
        let none = (searches.changes s.distance [] r.files).1 (searches.none s.distance r.files) in
        absurd (q.1.0 (ap (λ (files : List FileNo). rising s.distance files r.files) ((none_there s.files).0 is) ∙ none)),
  )
  worked_refused there false is = (
    λ q. let same : changes.Searched s ≡ q.0 = cc q.1 in
        (search_refused there).0 (subst (λ (c : Change). Lacks r (needs c) why) (sym same) q.2),
    λ q. (changes.Searched s, refl, (search_refused there).1 q),
  )

pub jobs_lack_room_alone : JobsLackRoomAlone
unfolding worked_out Worked
jobs_lack_room_alone state caller n why =
    let r = state.kept in
    let s = next_search r n in
    let there = All-take (IsThere r) n (search_queue r) (queue_known r.distance r.files) in
    let a = refusals_have_causes state caller (commands.Run (jobs.Search n)) why in
    let b = worked_refused r s why there (is_empty s.files) refl in
    (λ e. b.0 (a.0 e), λ q. a.1 (b.1 q))

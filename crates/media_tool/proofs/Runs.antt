-- Runs of lines, one after the other.
use Rattle.std.proofs.Common.{◌≡◌, ◌⊎◌, ℕ, ◌+◌, ◌-◌, ◌^◌, ◌<◌, ◌≤◌, min, Bool, true, false, cond, List, [], ◌∷◌, ◌++◌, Err, refl, sym, ap, ◌∙◌, subst, map, inl, inr, arith}
use Rattle.std.proofs.lemmas.List.Sums.{sum_by-cons}
use Rattle.media_types.specs.Cause.{Rose}
use Rattle.media_base.specs.declared.refusal.Refusal.{Refusal}
use Rattle.media_base.specs.declared.refusal.Refusal.TheVariants as refusals
use Rattle.media_base.specs.Replying.{Reply}
use Rattle.library_core.specs.Done.{Telling}
use Rattle.command_text.specs.Reading.{line_command}
use Rattle.media_tool.specs.Room.{NeverRefused}
use Rattle.media_tool.specs.Run.{LineAnswered, as_command, as_refused, as_no_memory, Run, SessionState, is_not_kept, count_not_kept}
use Rattle.media_tool.specs.Session.{HasSameRoom}

-- lines that nothing was known of may be answered with want of memory
abbrev pub all_no_memory : List (List ℕ) → List Reply
all_no_memory lines = map (λ line. Err refusals.NoMemory) lines

-- Reading refuses no line so.
abbrev pub NeverReadAs : Refusal → Type 0
NeverReadAs why = (line : List ℕ) → line_command line ≡ Err why → ⊥

not_kept_reply : (reply : Reply) → is_not_kept reply ≡ true → reply ≡ Err refusals.NotKept
not_kept_reply (Err refusals.NotKept) is = refl
not_kept_reply reply is = absurd cc

counted_by_test : (test : Bool) (before after : ℕ) → before ≤ after → (test ≡ true → Rose before after) → min (before + cond test 1 0) (2 ^ 64 - 1) ≤ after
counted_by_test true before after later rose = rose refl
counted_by_test false before after later rose = omega arith

module _ {K : Type 0} (tells : Telling K) where
  -- the refusal of its reading, or want of memory
  pub answered_refusal : (r : SessionState K) (line : List ℕ) (why : Refusal) → (why ≡ refusals.NoMemory) ⊎ (line_command line ≡ Err why) → LineAnswered tells r line (Err why) r
  answered_refusal r line why (inl memory) = as_no_memory (ap Err memory) refl
  answered_refusal r line why (inr read) = as_refused why read refl refl

  pub run_append : (r m s : SessionState K) (first second : List (List ℕ)) (given more : List Reply) → Run tells r first given m → Run tells m second more s → Run tells r (first ++ second) (given ++ more) s
  run_append r m s [] second [] more p q = subst (λ (x : SessionState K). Run tells x second more s) p q
  run_append r m s (line ∷ first) second (reply ∷ given) more p q = (p.0, p.1, run_append p.0 m s first second given more p.2 q)
  run_append r m s [] second (reply ∷ given) more p q = absurd p
  run_append r m s (line ∷ first) second [] more p q = absurd p

  pub run_no_memory : (r : SessionState K) (lines : List (List ℕ)) → Run tells r lines (all_no_memory lines) r
  run_no_memory r [] = refl
  run_no_memory r (line ∷ lines) = (r, as_no_memory refl refl, run_no_memory r lines)

  -- ---- what the keeper tells, along a run

  -- The count of faults never falls, and there is as much room in all.
  pub record GoesOn (s t : SessionState K) : Type 0 where
    pub later : tells.faults s.keeper ≤ tells.faults t.keeper
    pub room : HasSameRoom tells s.keeper t.keeper

  pub unchanged : (s t : SessionState K) → t ≡ s → GoesOn s t
  unchanged s t same = subst (λ (x : SessionState K). GoesOn s x) (sym same) record { later = omega arith; room = record { limit = refl; units = refl } }

  line_goes_on : (s t : SessionState K) (line : List ℕ) (reply : Reply) → LineAnswered tells s line reply t → GoesOn s t
  line_goes_on s t line reply (as_command command spelled answered) =
      record { later = answered.done.later; room = record { limit = answered.done.same_limit; units = answered.done.same_units } }
  line_goes_on s t line reply (as_refused why read is same) = unchanged s t same
  line_goes_on s t line reply (as_no_memory is same) = unchanged s t same

  pub run_goes_on : (s t : SessionState K) (lines : List (List ℕ)) (given : List Reply) → Run tells s lines given t → GoesOn s t
  run_goes_on s t [] [] p = unchanged s t p
  run_goes_on s t (line ∷ lines) (reply ∷ given) p =
      let first = line_goes_on s p.0 line reply p.1 in
      let others = run_goes_on p.0 t lines given p.2 in
      record {
        later = omega (arith, first.later, others.later);
        room = record { limit = others.room.limit ∙ first.room.limit; units = others.room.units ∙ first.room.units };
      }
  run_goes_on s t [] (reply ∷ given) p = absurd p
  run_goes_on s t (line ∷ lines) [] p = absurd p

  -- ---- replies that a change wasn't kept

  -- where the reply says so, the keeper has failed once more
  answered_rose : NeverReadAs refusals.NotKept → (s t : SessionState K) (line : List ℕ) (reply : Reply) → LineAnswered tells s line reply t → reply ≡ Err refusals.NotKept → Rose (tells.faults s.keeper) (tells.faults t.keeper)
  answered_rose never s t line reply (as_command command spelled answered) is = answered.done.not_kept is
  answered_rose never s t line reply (as_refused why read same_reply same) is =
      let e : why ≡ refusals.NotKept = cc in absurd (never line (subst (λ (refusal : Refusal). line_command line ≡ Err refusal) e read))
  answered_rose never s t line reply (as_no_memory same_reply same) is = absurd cc

  pub run_counts : NeverReadAs refusals.NotKept → (s t : SessionState K) (lines : List (List ℕ)) (given : List Reply) → Run tells s lines given t → min (tells.faults s.keeper + count_not_kept given) (2 ^ 64 - 1) ≤ tells.faults t.keeper
  run_counts never s t [] [] p = omega (arith, (unchanged s t p).later)
  run_counts never s t (line ∷ lines) (reply ∷ given) p =
      let first = counted_by_test (is_not_kept reply) (tells.faults s.keeper) (tells.faults p.0.keeper) (line_goes_on s p.0 line reply p.1).later
      (λ is. answered_rose never s p.0 line reply p.1 (not_kept_reply reply is)) in
      let others = run_counts never p.0 t lines given p.2 in
      let both : count_not_kept (reply ∷ given) ≡ cond (is_not_kept reply) 1 0 + count_not_kept given = sum_by-cons (λ (one : Reply). cond (is_not_kept one) 1 0) reply given in
      omega (arith, first, others)
  run_counts never s t [] (reply ∷ given) p = absurd p
  run_counts never s t (line ∷ lines) [] p = absurd p

  -- where the count of faults is always the same, none says so
  pub run_keeps : NeverReadAs refusals.NotKept → (count : ℕ) → count < 2 ^ 64 - 1 → ((keeper : K) → tells.faults keeper ≡ count) → (s t : SessionState K) (lines : List (List ℕ)) (given : List Reply) → Run tells s lines given t
      → NeverRefused refusals.NotKept given
  run_keeps never count below always s t [] [] p = tt
  run_keeps never count below always s t (line ∷ lines) (reply ∷ given) p = (
    λ is. omega (arith, below, always s.keeper, always p.0.keeper, answered_rose never s p.0 line reply p.1 is),
    run_keeps never count below always p.0 t lines given p.2,
  )
  run_keeps never count below always s t [] (reply ∷ given) p = absurd p
  run_keeps never count below always s t (line ∷ lines) [] p = absurd p

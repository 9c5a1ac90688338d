-- What follows from the definitions of putting: one text after another is both, and where a text fails more text fails.
use Rattle.std.specs.Prelude.{ℕ, ◌++◌, List, [], Option, Ok, Err, refl}
use Rattle.std.specs.Result.{IsErr}
use Rattle.std.proofs.Common.{subst, append_assoc, length-append, arith}
use Rattle.std.proofs.lemmas.Bool.{false≢true}
use Rattle.media_types.specs.declared.fault.Failed.{Failed}
use Rattle.media_base.specs.Transfer.{TookFront}
use Rattle.media_base.specs.TransferLaws.{gathered_none, gathers_then, front_of_more}
use Rattle.reply_text.specs.Putting.{Outcome, GathersBehind, Counts}

pub gathers_nothing : (faults : ℕ) (taken : Option (List ℕ)) (held : List ℕ) → GathersBehind faults faults taken held taken held [] (Ok tt)
gathers_nothing faults taken held = record {
  cause = record { later = omega arith; rose = λ e. cc e };
  gathers = gathered_none taken held;
}

pub gathers_both : (k m n : ℕ) (s t u : Option (List ℕ)) (held now last first second : List ℕ) (result : Outcome)
    → GathersBehind k m s held t now first (Ok tt) → GathersBehind m n t now u last second result → GathersBehind k n s held u last (first ++ second) result
gathers_both k m n s t u held now last first second result p q = record {
  cause = record {
    later = omega (arith, p.cause.later, q.cause.later);
    rose = λ e. let rose = q.cause.rose e in omega (arith, p.cause.later, rose);
  };
  gathers = gathers_then s t u held now last first second result p.gathers q.gathers;
}

pub gathers_no_more : (m n : ℕ) (s t : Option (List ℕ)) (held now first second : List ℕ) (error : Failed) (result : Outcome)
    → IsErr result → GathersBehind m n s held t now first (Err error) → GathersBehind m n s held t now (first ++ second) result
gathers_no_more m n s t held now first second error (Ok value) is p = absurd (false≢true is)
gathers_no_more m n s t held now first second error (Err same) is p = record {
  cause = p.cause;
  gathers = subst (λ (text : List ℕ). TookFront s t text) (append_assoc held first second) (front_of_more s t (held ++ first) second p.gathers);
}

pub counts_nothing : (count : ℕ) → Counts count count [] (Ok tt)
counts_nothing count = record { counted = λ fits. omega arith; succeeds = refl }

pub counts_both : (k m n : ℕ) (first second : List ℕ) (result : Outcome) → Counts k m first (Ok tt) → Counts m n second result → Counts k n (first ++ second) result
counts_both k m n first second result p q = record {
  counted = λ fits.
      let all = length-append first second in
      let here = p.counted fits in
      let there = q.counted (omega (arith, here)) in
      omega (arith, all, here, there);
  succeeds = q.succeeds;
}

pub counts_no_more : (m n : ℕ) (first second : List ℕ) (error : Failed) (result : Outcome) → IsErr result → Counts m n first (Err error) → Counts m n (first ++ second) result
counts_no_more m n first second error result is p = let ok = p.succeeds in cc ok

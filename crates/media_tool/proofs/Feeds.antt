-- Feeding a session pieces of its input, one after the other, until it ends.
use Rattle.std.proofs.Common.{◌≡◌, ◌≢◌, ℕ, List, [], ◌∷◌, ◌++◌, Option, Result, Ok, Err, refl, sym, ap, subst, ◌∙◌, append_assoc}
use mathlib.Core.Bool.{false≢true}
use Rattle.std.specs.Result.{IsErr, OnErr}
use Rattle.media_types.specs.Cause.{failed}
use Rattle.media_types.specs.declared.fault.Failed.{Failed}
use Rattle.std.proofs.lemmas.List.{append-nil}
use Rattle.std.proofs.lemmas.List.Concat.{flat_map-append}
use Rattle.media_base.specs.Transfer.{Gathered, Sends, Took, TookFront}
use Rattle.media_base.specs.TransferLaws.{took_more, front_of, front_of_more, front_more, sends_gathered}
use Rattle.media_base.specs.Replying.{Reply}
use Rattle.reply_text.specs.ReplyText.{reply_line}
use Rattle.library_core.specs.Done.{Telling}
use Rattle.media_tool.specs.Lines.{HasNoFeed, with_feed, Cut, with_rest}
use Rattle.media_tool.specs.Run.{LineAnswered, Run, SessionState, text_of}
use Rattle.media_tool.specs.Feeding.{Fed, LineSent, Stopped, TookBehind}
use Rattle.media_tool.specs.Session.{AnswersAll, AnswersEnded, AnswersFront}
use Rattle.media_tool.proofs.Cuts.{AllByRecursion-append, cut_none, cut_line, cut_more, some_cut, with_rest-append}
use Rattle.media_tool.proofs.Runs.{run_append, all_no_memory, run_no_memory}

-- the two answers of a writer
abbrev pub done : Unit {0} → Result (Unit {0}) Failed
done x = Ok x

abbrev pub failing : Result (Unit {0}) Failed
failing = Err failed

text_of-append : (given more : List Reply) → text_of (given ++ more) ≡ text_of given ++ text_of more
text_of-append given more = flat_map-append reply_line given more

regrouped : (line front more : List ℕ) → line ++ (with_feed front ++ more) ≡ with_feed (line ++ front) ++ more
regrouped line front more =
    sym (append_assoc line (with_feed front) more) ∙ ap (λ (bytes : List ℕ). bytes ++ more) (sym (append_assoc line front (10 ∷ [])))

-- ---- what a failed call hands on
pub on_err : {T E P : Type 0} (result : Result T E) → P → OnErr result P
on_err (Ok value) p = tt
on_err (Err error) p = p

-- a front of the piece was fed, and this is the rest of it
pub record FedSoFar {K : Type 0} (tells : Telling K) (r : SessionState K) (line piece : List ℕ) (m : SessionState K) (kept rest : List ℕ) (Went : List ℕ → Type 0) : Type 0 where
  pub front : List ℕ
  pub split : piece ≡ front ++ rest
  pub fed : Fed tells r line front m kept Went

-- what becomes of two texts, one behind the other
abbrev Joins : (List ℕ → Type 0) → (List ℕ → Type 0) → (List ℕ → Type 0) → Type 0
Joins P Q R = (a b : List ℕ) → P a → Q b → R (a ++ b)

-- so it is with more behind it
abbrev Extends : (List ℕ → Type 0) → Type 0
Extends P = (a b : List ℕ) → P a → P (a ++ b)

pub behind_extends : (t : Option (List ℕ)) (held : List ℕ) (u : Option (List ℕ)) → Extends (TookBehind t held u)
behind_extends t held u a b p = subst (λ (text : List ℕ). TookFront t u text) (append_assoc held a b) (front_of_more t u (held ++ a) b p)

-- where nothing was held, what was held and the text is the text
pub front_from_none : (t u : Option (List ℕ)) (held : List ℕ) → held ≡ [] → (text : List ℕ) → TookBehind t held u text → TookFront t u text
front_from_none t u held none text p = subst (λ (first : List ℕ). TookFront t u (first ++ text)) none p

pub sends_from_none : {T E : Type 0} (t u v : Option (List ℕ)) (held now text : List ℕ) (result : Result T E) → held ≡ [] → Gathered t held u now text → Sends u v now result → Sends t v text result
sends_from_none t u v held now text result none p q =
    subst (λ (first : List ℕ). Sends t v (first ++ text) result) none (sends_gathered t u v held now text result p q)

module _ {K : Type 0} {tells : Telling K} where
  -- ---- feeding

  -- bytes without a line feed go behind the unfinished line
  pub fed_bytes : (r : SessionState K) (line piece : List ℕ) (P : List ℕ → Type 0) → P [] → HasNoFeed (line ++ piece) → Fed tells r line piece r (line ++ piece) P
  fed_bytes r line piece P none no_feed = record {
    lines = [];
    replies = [];
    cut = cut_none (line ++ piece) no_feed;
    run = refl;
    went = none;
  }

  -- nothing came yet
  pub fed_nothing : (r : SessionState K) (P : List ℕ → Type 0) → P [] → Fed tells r [] [] r [] P
  fed_nothing r P none = fed_bytes r [] [] P none tt

  -- the line was finished and answered
  pub fed_line : (r m : SessionState K) (line front : List ℕ) (reply : Reply) (P : List ℕ → Type 0) → HasNoFeed (line ++ front) → LineAnswered tells r (line ++ front) reply m → P (reply_line reply) → Fed tells r line (with_feed front) m [] P
  fed_line r m line front reply P no_feed answered went = record {
    lines = (line ++ front) ∷ [];
    replies = reply ∷ [];
    cut = subst (λ (bytes : List ℕ). Cut bytes ((line ++ front) ∷ []) []) (sym (regrouped line front []) ∙ ap (λ (bytes : List ℕ). line ++ bytes) (append-nil (with_feed front))) (cut_line (line ++ front) [] [] [] no_feed (cut_none [] tt));
    run = (m, answered, refl);
    went = subst P (sym (append-nil (reply_line reply))) went;
  }

  -- one piece after another is both pieces
  pub fed_more : (r m s : SessionState K) (line a mid b rest : List ℕ) (P Q R : List ℕ → Type 0) → Joins P Q R → Fed tells r line a m mid P → Fed tells m mid b s rest Q → Fed tells r line (a ++ b) s rest R
  fed_more r m s line a mid b rest P Q R join p q = record {
    lines = p.lines ++ q.lines;
    replies = p.replies ++ q.replies;
    cut = subst (λ (bytes : List ℕ). Cut bytes (p.lines ++ q.lines) rest) (append_assoc line a b) (cut_more (line ++ a) b p.lines q.lines mid rest p.cut q.cut);
    run = run_append tells r m s p.lines q.lines p.replies q.replies p.run q.run;
    went = subst R (sym (text_of-append p.replies q.replies)) (join (text_of p.replies) (text_of q.replies) p.went q.went);
  }

  -- what became of the text is told otherwise
  pub fed_as : (r m : SessionState K) (line piece rest : List ℕ) (P Q : List ℕ → Type 0) → ((text : List ℕ) → P text → Q text) → Fed tells r line piece m rest P → Fed tells r line piece m rest Q
  fed_as r m line piece rest P Q turn p = record { lines = p.lines; replies = p.replies; cut = p.cut; run = p.run; went = turn (text_of p.replies) p.went }

  -- ---- stopping

  -- it stopped at the reply to a line
  pub stopped_line : (r m : SessionState K) (line front more : List ℕ) (reply : Reply) (P : List ℕ → Type 0) → Extends P → HasNoFeed (line ++ front) → LineAnswered tells r (line ++ front) reply m → P (reply_line reply) → Stopped tells r line (with_feed front ++ more) m P
  stopped_line r m line front more reply P extend no_feed answered went =
      let some = some_cut more in
      let others = with_rest some.0 some.1 in
      let lines = (line ++ front) ∷ some.0 in
      record {
        lines = lines;
        rest = some.1;
        replies = reply ∷ all_no_memory others;
        cut = subst (λ (bytes : List ℕ). Cut bytes lines some.1) (sym (regrouped line front more)) (cut_line (line ++ front) more some.0 some.1 no_feed some.2);
        run = subst (λ (all : List (List ℕ)). Run tells r all (reply ∷ all_no_memory others) m) (sym (with_rest-append ((line ++ front) ∷ []) some.0 some.1)) (m, answered, run_no_memory tells m others);
        went = extend (reply_line reply) (text_of (all_no_memory others)) went;
      }

  -- a piece was fed, and then it stopped
  pub stopped_after : (r m s : SessionState K) (line a mid b : List ℕ) (P Q R : List ℕ → Type 0) → Joins P Q R → Fed tells r line a m mid P → Stopped tells m mid b s Q → Stopped tells r line (a ++ b) s R
  stopped_after r m s line a mid b P Q R join p q = record {
    lines = p.lines ++ q.lines;
    rest = q.rest;
    replies = p.replies ++ q.replies;
    cut = subst (λ (bytes : List ℕ). Cut bytes (p.lines ++ q.lines) q.rest) (append_assoc line a b) (cut_more (line ++ a) b p.lines q.lines mid q.rest p.cut q.cut);
    run = subst (λ (all : List (List ℕ)). Run tells r all (p.replies ++ q.replies) s) (sym (with_rest-append p.lines q.lines q.rest)) (run_append tells r m s p.lines (with_rest q.lines q.rest) p.replies q.replies p.run q.run);
    went = subst R (sym (text_of-append p.replies q.replies)) (join (text_of p.replies) (text_of q.replies) p.went q.went);
  }

  -- a piece was fed, and then it stopped with nothing more answered
  pub fed_cut_off : (r m : SessionState K) (line piece rest : List ℕ) (P Q : List ℕ → Type 0) → ((a b : List ℕ) → P a → Q (a ++ b)) → Fed tells r line piece m rest P → Stopped tells r line piece m Q
  fed_cut_off r m line piece rest P Q extend p =
      let others = all_no_memory (with_rest [] rest) in
      record {
        lines = p.lines ++ [];
        rest = rest;
        replies = p.replies ++ others;
        cut = subst (λ (lines : List (List ℕ)). Cut (line ++ piece) lines rest) (sym (append-nil p.lines)) p.cut;
        run = subst (λ (all : List (List ℕ)). Run tells r all (p.replies ++ others) m) (sym (with_rest-append p.lines [] rest)) (run_append tells r m m p.lines (with_rest [] rest) p.replies others p.run (run_no_memory tells m (with_rest [] rest)));
        went = subst Q (sym (text_of-append p.replies others)) (extend (text_of p.replies) (text_of others) p.went);
      }

  -- bytes were kept behind the unfinished line
  pub fed_kept : (r s : SessionState K) (line piece rest : List ℕ) (P : List ℕ → Type 0) → P [] → HasNoFeed line → HasNoFeed piece → s ≡ r → rest ≡ line ++ piece → Fed tells r line piece s rest P
  fed_kept r s line piece rest P none first second same is =
      subst (λ (m : SessionState K). Fed tells r line piece m rest P) (sym same) (subst (λ (kept : List ℕ). Fed tells r line piece r kept P) (sym is)
      (fed_bytes r line piece P none (AllByRecursion-append (λ byte. byte ≢ 10) line piece first second)))

  -- ---- lines that were answered

  -- a failed call, whatever error it tells
  pub sent_failed : {T E U F : Type 0} (s m : SessionState K) (line : List ℕ) (P Q R S : List ℕ → Type 0) (error : E) (result : Result U F)
      → IsErr result → ((text : List ℕ) → Q text → S text) → LineSent tells {T = T} s line m P Q (Err error) → LineSent tells s line m R S result
  sent_failed s m line P Q R S error (Err told) is turn sent = record { reply = sent.reply; answered = sent.answered; sends = turn (reply_line sent.reply) sent.sends }
  sent_failed s m line P Q R S error (Ok value) is turn sent = absurd (false≢true is)

  pub sent_fed : (r m : SessionState K) (line front whole : List ℕ) (P Q : List ℕ → Type 0) → whole ≡ line ++ front → HasNoFeed (line ++ front) → LineSent tells r whole m P Q (done tt) → Fed tells r line (with_feed front) m [] P
  sent_fed r m line front whole P Q is no_feed sent =
      fed_line r m line front sent.reply P no_feed (subst (λ (all : List ℕ). LineAnswered tells r all sent.reply m) is sent.answered) sent.sends

  pub sent_stopped : (r m : SessionState K) (line front whole more : List ℕ) (P Q : List ℕ → Type 0) → Extends Q → whole ≡ line ++ front → HasNoFeed (line ++ front) → LineSent tells r whole m P Q failing → Stopped tells r line (with_feed front ++ more) m Q
  sent_stopped r m line front whole more P Q extend is no_feed sent =
      stopped_line r m line front more sent.reply Q extend no_feed (subst (λ (all : List ℕ). LineAnswered tells r all sent.reply m) is sent.answered) sent.sends

  -- what was gathered of the reply, when nothing was held, is written
  pub sent_written : {T E : Type 0} (r m : SessionState K) (line : List ℕ) (t u v : Option (List ℕ)) (first held : List ℕ) (result : Result T E) → first ≡ [] → LineSent tells r line m (Gathered t first u held) (TookBehind t first u) (done tt) → Sends u v held result
      → LineSent tells r line m (Took t v) (TookFront t v) result
  sent_written r m line t u v first held result none sent sends = record {
    reply = sent.reply;
    answered = sent.answered;
    sends = sends_from_none t u v first held (reply_line sent.reply) result none sent.sends sends;
  }

  pub so_far_none : (r : SessionState K) (line piece : List ℕ) (P : List ℕ → Type 0) → P [] → HasNoFeed line → FedSoFar tells r line piece r line piece P
  so_far_none r line piece P none no_feed = record {
    front = [];
    split = refl;
    fed = record { lines = []; replies = []; cut = subst (λ (bytes : List ℕ). Cut bytes [] line) (sym (append-nil line)) (cut_none line no_feed); run = refl; went = none };
  }

  pub so_far_more : (r m s : SessionState K) (line piece kept front rest after next : List ℕ) (P Q R : List ℕ → Type 0) → Joins P Q R → FedSoFar tells r line piece m kept rest P → rest ≡ front ++ after → Fed tells m kept front s next Q → FedSoFar tells r line piece s next after R
  so_far_more r m s line piece kept front rest after next P Q R join p is q = record {
    front = p.front ++ front;
    split = p.split ∙ ap (λ (bytes : List ℕ). p.front ++ bytes) is ∙ sym (append_assoc p.front front after);
    fed = fed_more r m s line p.front kept front next P Q R join p.fed q;
  }

  pub so_far_all : (r m s : SessionState K) (line piece kept rest next : List ℕ) (P Q R : List ℕ → Type 0) → Joins P Q R → FedSoFar tells r line piece m kept rest P → Fed tells m kept rest s next Q → Fed tells r line piece s next R
  so_far_all r m s line piece kept rest next P Q R join p q =
      subst (λ (bytes : List ℕ). Fed tells r line bytes s next R) (sym p.split) (fed_more r m s line p.front kept rest next P Q R join p.fed q)

  pub so_far_stopped : (r m s : SessionState K) (line piece kept rest : List ℕ) (P Q R : List ℕ → Type 0) → Joins P Q R → FedSoFar tells r line piece m kept rest P → Stopped tells m kept rest s Q → Stopped tells r line piece s R
  so_far_stopped r m s line piece kept rest P Q R join p q =
      subst (λ (bytes : List ℕ). Stopped tells r line bytes s R) (sym p.split) (stopped_after r m s line p.front kept rest P Q R join p.fed q)

  -- ---- ends

  -- nothing more came, and no line is unfinished
  pub ends_fed : (o : SessionState K) (given : List ℕ) (s : SessionState K) (t u : Option (List ℕ)) → Fed tells o [] given s [] (Took t u) → AnswersAll tells o s given t u
  ends_fed o given s t u p = record {
    lines = p.lines;
    rest = [];
    cut = p.cut;
    replies = p.replies;
    run = p.run;
    took = p.went;
  }

  -- the last line was answered, which no line feed ended
  pub ends_line : (o : SessionState K) (given : List ℕ) (m s : SessionState K) (byte : ℕ) (bytes : List ℕ) (reply : Reply) (t u v : Option (List ℕ)) → Fed tells o [] given m (byte ∷ bytes) (Took t u) → LineAnswered tells m (byte ∷ bytes) reply s → Took u v (reply_line reply) → AnswersAll tells o s given t v
  ends_line o given m s byte bytes reply t u v p answered took = record {
    lines = p.lines;
    rest = byte ∷ bytes;
    cut = p.cut;
    replies = p.replies ++ reply ∷ [];
    run = run_append tells o m s p.lines ((byte ∷ bytes) ∷ []) p.replies (reply ∷ []) p.run (s, answered, refl);
    took = subst (λ (text : List ℕ). Took t v text) (ap (λ (text : List ℕ). text_of p.replies ++ text) (sym (append-nil (reply_line reply))) ∙ sym (text_of-append p.replies (reply ∷ []))) (took_more t u v (text_of p.replies) (reply_line reply) p.went took);
  }

  -- the sink failed at the reply to the last line
  pub ends_front : (o : SessionState K) (given : List ℕ) (m s : SessionState K) (byte : ℕ) (bytes : List ℕ) (reply : Reply) (t u v : Option (List ℕ)) → Fed tells o [] given m (byte ∷ bytes) (Took t u) → LineAnswered tells m (byte ∷ bytes) reply s → TookFront u v (reply_line reply) → AnswersFront tells o s given t v
  ends_front o given m s byte bytes reply t u v p answered took = record {
    lines = p.lines;
    rest = byte ∷ bytes;
    cut = p.cut;
    replies = p.replies ++ reply ∷ [];
    run = run_append tells o m s p.lines ((byte ∷ bytes) ∷ []) p.replies (reply ∷ []) p.run (s, answered, refl);
    took = subst (λ (text : List ℕ). TookFront t v text) (ap (λ (text : List ℕ). text_of p.replies ++ text) (sym (append-nil (reply_line reply))) ∙ sym (text_of-append p.replies (reply ∷ []))) (front_more t u v (text_of p.replies) (reply_line reply) p.went took);
  }

  -- the input failed, or more came than a session takes
  pub ends_early : (o : SessionState K) (given : List ℕ) (s : SessionState K) (rest : List ℕ) (t u : Option (List ℕ)) → Fed tells o [] given s rest (Took t u) → AnswersEnded tells o s given t u
  ends_early o given s rest t u p = record {
    lines = p.lines;
    rest = rest;
    cut = p.cut;
    replies = p.replies;
    run = p.run;
    took = p.went;
  }

  pub ends_stopped : (o s : SessionState K) (given : List ℕ) (t u : Option (List ℕ)) → Stopped tells o [] given s (TookFront t u) → AnswersFront tells o s given t u
  ends_stopped o s given t u p = record {
    lines = p.lines;
    rest = p.rest;
    cut = p.cut;
    replies = p.replies;
    run = p.run;
    took = p.went;
  }

  pub ends_sent : (o : SessionState K) (given : List ℕ) (m s : SessionState K) (line : List ℕ) (t u v : Option (List ℕ)) → (line ≡ [] → ⊥) → Fed tells o [] given m line (Took t u) → LineSent tells m line s (Took u v) (TookFront u v) (done tt) → AnswersAll tells o s given t v
  ends_sent o given m s [] t u v some p sent = absurd (some refl)
  ends_sent o given m s (byte ∷ bytes) t u v some p sent = ends_line o given m s byte bytes sent.reply t u v p sent.answered sent.sends

  pub ends_cut_off : (o : SessionState K) (given : List ℕ) (m s : SessionState K) (line : List ℕ) (t u v : Option (List ℕ)) → (line ≡ [] → ⊥) → Fed tells o [] given m line (Took t u) → LineSent tells m line s (Took u v) (TookFront u v) failing → AnswersFront tells o s given t v
  ends_cut_off o given m s [] t u v some p sent = absurd (some refl)
  ends_cut_off o given m s (byte ∷ bytes) t u v some p sent = ends_front o given m s byte bytes sent.reply t u v p sent.answered sent.sends

  -- lines that ended were answered: a front of what all lines may be answered, and of what more bytes bring
  pub ended_front : (o s : SessionState K) (given more : List ℕ) (t u : Option (List ℕ)) → AnswersEnded tells o s given t u → AnswersFront tells o s (given ++ more) t u
  ended_front o s given more t u p =
      let some = some_cut (p.rest ++ more) in
      let others = all_no_memory (with_rest some.0 some.1) in
      record {
        lines = p.lines ++ some.0;
        rest = some.1;
        cut = cut_more given more p.lines some.0 p.rest some.1 p.cut some.2;
        replies = p.replies ++ others;
        run = subst (λ (all : List (List ℕ)). Run tells o all (p.replies ++ others) s) (sym (with_rest-append p.lines some.0 some.1)) (run_append tells o s s p.lines (with_rest some.0 some.1) p.replies others p.run (run_no_memory tells s (with_rest some.0 some.1)));
        took = subst (λ (text : List ℕ). TookFront t u text) (sym (text_of-append p.replies others)) (front_of t u (text_of p.replies) (text_of others) p.took);
      }

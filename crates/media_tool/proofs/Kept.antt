-- The line that a session keeps.
use Rattle.std.proofs.Common.{◌≡◌, ◌↔◌, ℕ, suc, zero, ◌+◌, ◌-◌, ◌<◌, ◌≤◌, min, List, [], ◌∷◌, ◌++◌, length, take, Ok, Err, Option, Result, inl, inr, refl, sym, ◌∙◌, ap, arith}
use Rattle.std.specs.Result.{OnErr, OnOk}
use Rattle.std.proofs.lemmas.Bool.{cases_lt}
use Rattle.std.proofs.lemmas.List.{nil_from_length, length-take, take_all}
use Rattle.media_base.specs.declared.refusal.Refusal.TheVariants as refusals
use Rattle.media_base.specs.Replying.{Reply}
use Rattle.media_base.specs.Transfer.{Gathered, Sends, Took, TookFront}
use Rattle.media_base.specs.TransferLaws.{front_of_more, gathered_none, gathers_then}
use Rattle.library_core.specs.Done.{Telling}
use Rattle.command_text.specs.Reading.{line_command}
use Rattle.command_text.specs.declared.request.TheConstants.{MAX_LINE}
use Rattle.media_tool.specs.Feeding.{Fed, FedKept, LineSent, Stopped, TookBehind}
use Rattle.media_tool.specs.Kept.{kept_of, Keeps}
use Rattle.media_tool.specs.Lines.{HasNoFeed}
use Rattle.media_tool.specs.Run.{LineAnswered, as_command, as_refused, as_no_memory, SessionState, text_of}
use Rattle.media_tool.proofs.Cuts.{AllByRecursion-append}
use Rattle.media_tool.proofs.Feeds.{FedSoFar, done, failing, fed_as, fed_cut_off, fed_kept, front_from_none, sends_from_none, so_far_none, so_far_more, so_far_all, so_far_stopped}

-- ---- fronts

-- a front of a front and more bytes is the front of all
take_again : (n : ℕ) (line more : List ℕ) → take n (take n line ++ more) ≡ take n (line ++ more)
take_again zero line more = refl
take_again (suc n) [] more = refl
take_again (suc n) (byte ∷ line) more = ap (λ (bytes : List ℕ). byte ∷ bytes) (take_again n line more)

-- the front of a list, where only so many bytes were there to take
take_count : (n count : ℕ) (bytes : List ℕ) → count ≡ min n (length bytes) → take n bytes ≡ take count bytes
take_count n count bytes is = elim (cases_lt (length bytes) n) [
  | inl more ↦ take_all n bytes (omega (arith, more)) ∙ sym (take_all count bytes (omega (arith, more, is)))
  | inr fits ↦ let same : n ≡ count = omega (arith, fits, is) in ap (λ (m : ℕ). take m bytes) same
]

-- what was there, and as many of the bytes as there is room for
take_room : (n count : ℕ) (old bytes : List ℕ) → length old ≤ n → count ≡ min (n - length old) (length bytes) → take n (old ++ bytes) ≡ old ++ take count bytes
take_room n count [] bytes fits is = take_count n count bytes (omega (arith, is))
take_room zero count (byte ∷ old) bytes fits is = absurd (omega (arith, fits))
take_room (suc n) count (byte ∷ old) bytes fits is = ap (λ (rest : List ℕ). byte ∷ rest) (take_room n count old bytes (omega (arith, fits)) (omega (arith, is)))

-- ---- what is kept

kept_whole : (line : List ℕ) → length line ≤ MAX_LINE + 1 → kept_of line ≡ line
unfolding kept_of
kept_whole line fits = take_all (MAX_LINE + 1) line fits

kept_long : (line : List ℕ) → MAX_LINE + 1 < length line → MAX_LINE < length (kept_of line)
unfolding kept_of
kept_long line long = omega (arith, length-take (MAX_LINE + 1) line, long)

kept_more : (line more : List ℕ) → kept_of (kept_of line ++ more) ≡ kept_of (line ++ more)
unfolding kept_of
kept_more line more = take_again (MAX_LINE + 1) line more

kept_nil : kept_of [] ≡ []
kept_nil = kept_whole [] (omega arith)

nil_kept : (line : List ℕ) → kept_of line ≡ [] → line ≡ []
unfolding kept_of
nil_kept line e = nil_from_length line (omega (arith, length-take (MAX_LINE + 1) line, ap length e))

-- a session's room for bytes
pub kept_room : (old bytes : List ℕ) (count : ℕ) → length old ≤ MAX_LINE + 1 → count ≡ min (MAX_LINE + 1 - length old) (length bytes) → kept_of (old ++ bytes) ≡ old ++ take count bytes
unfolding kept_of
kept_room old bytes count fits is = take_room (MAX_LINE + 1) count old bytes fits is

-- nothing is kept of an empty line, and of no other
pub keeps_nothing : (kept : List ℕ) → kept ≡ [] → Keeps kept []
keeps_nothing kept nil = record { front = nil ∙ sym kept_nil; unfinished = tt }

pub nil_of_keeps : (kept line : List ℕ) → kept ≡ [] → kept ≡ kept_of line → line ≡ []
nil_of_keeps kept line nil front = nil_kept line (sym front ∙ nil)

pub keeps_of_nil : (kept line : List ℕ) → kept ≡ kept_of line → line ≡ [] → kept ≡ []
keeps_of_nil kept line front nil = front ∙ ap kept_of nil ∙ kept_nil

-- more bytes came, and what there was room for was kept of them
pub keeps_more : (kept now line more : List ℕ) → Keeps kept line → HasNoFeed more → now ≡ kept_of (kept ++ more) → Keeps now (line ++ more)
keeps_more kept now line more keeps no_feed is = record {
  front = is ∙ ap (λ (bytes : List ℕ). kept_of (bytes ++ more)) keeps.front ∙ kept_more line more;
  unfinished = AllByRecursion-append (λ byte. byte ≡ 10 → ⊥) line more keeps.unfinished no_feed;
}

-- ---- a kept line is answered as the whole line

-- a line is refused as too long exactly where it is
abbrev pub RefusesLong : Type 0
RefusesLong = (line : List ℕ) → (line_command line ≡ Err refusals.LineTooLong) ↔ (MAX_LINE < length line)

same_reading : RefusesLong → (line : List ℕ) → line_command (kept_of line) ≡ line_command line
same_reading law line = elim (cases_lt (MAX_LINE + 1) (length line)) [
  | inl long ↦ (law (kept_of line)).1 (kept_long line long) ∙ sym ((law line).1 (omega (arith, long)))
  | inr fits ↦ ap line_command (kept_whole line fits)
]

-- ---- within a piece

-- A front of the piece was fed, this is the rest of it, and these bytes are kept of the line in between.
pub record KeptSoFar {K : Type 0} (tells : Telling K) (r : SessionState K) (line piece : List ℕ) (m : SessionState K) (kept rest : List ℕ) (Went : List ℕ → Type 0) : Type 0 where
  pub mid : List ℕ
  pub keeps : Keeps kept mid
  pub so_far : FedSoFar tells r line piece m mid rest Went

module _ {K : Type 0} {tells : Telling K} where
  same_answer : (r m : SessionState K) (a b : List ℕ) (reply : Reply) → line_command a ≡ line_command b → LineAnswered tells r a reply m → LineAnswered tells r b reply m
  same_answer r m a b reply same (as_command command spelled answered) = as_command command (sym same ∙ spelled) answered
  same_answer r m a b reply same (as_refused why read is unchanged) = as_refused why (sym same ∙ read) is unchanged
  same_answer r m a b reply same (as_no_memory is unchanged) = as_no_memory is unchanged

  pub kept_sent : {T E : Type 0} → RefusesLong → (r m : SessionState K) (kept line : List ℕ) (P Q : List ℕ → Type 0) (result : Result T E) → LineSent tells r kept m P Q result → kept ≡ kept_of line → LineSent tells r line m P Q result
  kept_sent law r m kept line P Q result sent front = record {
    reply = sent.reply;
    answered = same_answer r m kept line sent.reply (ap line_command front ∙ same_reading law line) sent.answered;
    sends = sent.sends;
  }

  pub kept_so_far_none : (r : SessionState K) (kept line piece : List ℕ) (P : List ℕ → Type 0) → P [] → Keeps kept line → KeptSoFar tells r line piece r kept piece P
  kept_so_far_none r kept line piece P none keeps = record { mid = line; keeps = keeps; so_far = so_far_none r line piece P none keeps.unfinished }

  module _ (t u v : Option (List ℕ)) (first held now : List ℕ) where
    -- the line was finished and answered
    pub kept_so_far_more : (r m s : SessionState K) (line piece kept front rest after last : List ℕ) → KeptSoFar tells r line piece m kept rest (Gathered t first u held) → rest ≡ front ++ after → last ≡ []
        → ((mid : List ℕ) → Keeps kept mid → Fed tells m mid front s [] (Gathered u held v now)) → KeptSoFar tells r line piece s last after (Gathered t first v now)
    kept_so_far_more r m s line piece kept front rest after last p is none q = record {
      mid = [];
      keeps = keeps_nothing last none;
      so_far = so_far_more r m s line piece p.mid front rest after [] (Gathered t first u held) (Gathered u held v now) (Gathered t first v now)
          (λ a b one then. gathers_then t u v first held now a b (done tt) one then) p.so_far is (q p.mid p.keeps);
    }

    pub kept_so_far_stopped : (r m s : SessionState K) (line piece kept rest : List ℕ) → KeptSoFar tells r line piece m kept rest (Gathered t first u held) → ((mid : List ℕ) → Keeps kept mid → Stopped tells m mid rest s (TookBehind u held v))
        → Stopped tells r line piece s (TookBehind t first v)
    kept_so_far_stopped r m s line piece kept rest p q = so_far_stopped r m s line piece p.mid rest (Gathered t first u held) (TookBehind u held v) (TookBehind t first v)
        (λ a b one then. gathers_then t u v first held [] a b failing one then) p.so_far (q p.mid p.keeps)

  -- the rest has no line feed, and was kept
  pub kept_so_far_all : (r m s : SessionState K) (line piece kept rest last : List ℕ) (t u : Option (List ℕ)) (first held : List ℕ) → KeptSoFar tells r line piece m kept rest (Gathered t first u held) → HasNoFeed rest → s ≡ m → last ≡ kept_of (kept ++ rest)
      → FedKept tells r line piece s last (Gathered t first u held)
  kept_so_far_all r m s line piece kept rest last t u first held p no_feed same is = record {
    rest = p.mid ++ rest;
    keeps = keeps_more kept last p.mid rest p.keeps no_feed is;
    fed = so_far_all r m s line piece p.mid rest (p.mid ++ rest) (Gathered t first u held) (Gathered u held u held) (Gathered t first u held)
        (λ a b one then. gathers_then t u u first held held a b (done tt) one then) p.so_far
        (fed_kept m s p.mid rest (p.mid ++ rest) (Gathered u held u held) (gathered_none u held) p.keeps.unfinished no_feed same refl);
  }

  -- ---- a piece, when nothing was held before it

  pub stopped_from_none : (r m : SessionState K) (line piece : List ℕ) (t u : Option (List ℕ)) (held : List ℕ) → held ≡ [] → Stopped tells r line piece m (TookBehind t held u) → Stopped tells r line piece m (TookFront t u)
  stopped_from_none r m line piece t u held none p = record {
    lines = p.lines;
    rest = p.rest;
    replies = p.replies;
    cut = p.cut;
    run = p.run;
    went = front_from_none t u held none (text_of p.replies) p.went;
  }

  -- what was gathered is written, or a front of it
  pub feed_written : {T E : Type 0} (r m : SessionState K) (before piece kept : List ℕ) (t u v : Option (List ℕ)) (first held : List ℕ) (result : Result T E) → first ≡ []
      → ((line : List ℕ) → Keeps before line → FedKept tells r line piece m kept (Gathered t first u held)) → Sends u v held result
      → OnOk result ((line : List ℕ) → Keeps before line → FedKept tells r line piece m kept (Took t v)) × OnErr result ((line : List ℕ) → Keeps before line → Stopped tells r line piece m (TookFront t v))
  feed_written r m before piece kept t u v first held (Ok value) none fed sends = (
    λ line keeps.
        let p = fed line keeps in
        record {
          rest = p.rest;
          keeps = p.keeps;
          fed = fed_as r m line piece p.rest (Gathered t first u held) (Took t v) (λ text gathered. sends_from_none t u v first held text (done tt) none gathered sends) p.fed;
        },
    tt,
  )
  feed_written r m before piece kept t u v first held (Err error) none fed sends = (
    tt,
    λ line keeps.
        let p = fed line keeps in
        fed_cut_off r m line piece p.rest (Gathered t first u held) (TookFront t v)
        (λ a b gathered. front_of_more t v a b (sends_from_none t u v first held a failing none gathered sends)) p.fed,
  )

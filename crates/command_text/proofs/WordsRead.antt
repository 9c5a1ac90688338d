-- Texts that are read as words, one after the other.
use Rattle.std.proofs.Common.{◌≡◌, ℕ, ◌+◌, ◌<◌, ◌≤◌, List, [], ◌∷◌, ◌++◌, length, get_or, drop, map, Bor, Result, Ok, Err, refl, sym, ap, ◌∙◌, append_assoc}
use Rattle.std.proofs.lemmas.List.{at_drop_more, at_drop_all, append-nil}
use Rattle.media_types.specs.declared.hash.Hash64.{Hash64}
use Rattle.media_base.specs.declared.refusal.Refusal.{Refusal}
use Rattle.command_text.specs.Forms.{◌>>=◌, word_of, words_of}

abbrev pub texts_at : List (Bor (List ℕ)) → List (List ℕ)
texts_at texts = map (λ text. text.now) texts

-- the words, with these before them
abbrev pub behind : List Hash64 → Result (List Hash64) Refusal → Result (List Hash64) Refusal
behind before words = words >>= (λ words. Ok (before ++ words))

-- the words of the first texts, and of the others, are the words of all of them
pub record AreReadTo (texts : List (Bor (List ℕ))) (i : ℕ) (before : List Hash64) : Type 0 where
  pub whole : words_of (texts_at texts) ≡ behind before (words_of (texts_at (drop i texts)))

behind_none : (words : Result (List Hash64) Refusal) → words ≡ behind [] words
behind_none (Ok words) = refl
behind_none (Err refusal) = refl

pub none_read : (texts : List (Bor (List ℕ))) → AreReadTo texts 0 []
none_read texts = record { whole = behind_none (words_of (texts_at texts)) }

behind_more : (before : List Hash64) (word : Hash64) (words : Result (List Hash64) Refusal)
    → behind before (words >>= (λ words. Ok (word ∷ words))) ≡ behind (before ++ word ∷ []) words
behind_more before word (Ok words) = ap Ok (sym (append_assoc before (word ∷ []) words))
behind_more before word (Err refusal) = refl

words_of-cons : (text : List ℕ) (texts : List (List ℕ)) → words_of (text ∷ texts) ≡ (word_of text >>= (λ word. words_of texts >>= (λ words. Ok (word ∷ words))))
unfolding words_of
words_of-cons text texts = refl

words_of-nil : words_of [] ≡ Ok []
unfolding words_of
words_of-nil = refl

module _ (texts : List (Bor (List ℕ))) (i : ℕ) (before : List Hash64) (unread : Bor (List ℕ)) (within : i < length texts) where
  -- the words from the place on
  from_here : words_of (texts_at (drop i texts)) ≡ (word_of (get_or texts i unread).now >>= (λ word. words_of (texts_at (drop (i + 1) texts)) >>= (λ words. Ok (word ∷ words))))
  from_here =
      at_drop_more (λ left. words_of (texts_at left)) texts i unread within
      ∙ words_of-cons (get_or texts i unread).now (texts_at (drop (i + 1) texts))

  -- the text is a word, so the texts up to it are read
  pub one_read : (word : Hash64) → Ok word ≡ word_of (get_or texts i unread).now → AreReadTo texts i before → AreReadTo texts (i + 1) (before ++ word ∷ [])
  one_read word here so_far = record {
    whole = so_far.whole
        ∙ ap (behind before) (from_here ∙ ap (λ (found : Result Hash64 Refusal). found >>= (λ word. words_of (texts_at (drop (i + 1) texts)) >>= (λ words. Ok (word ∷ words)))) (sym here))
        ∙ behind_more before word (words_of (texts_at (drop (i + 1) texts)));
  }

  -- the text is refused, so all of them are
  pub one_refused : (refusal : Refusal) → Err refusal ≡ word_of (get_or texts i unread).now → AreReadTo texts i before → words_of (texts_at texts) ≡ Err refusal
  one_refused refusal here so_far =
      so_far.whole
      ∙ ap (behind before) (from_here ∙ ap (λ (found : Result Hash64 Refusal). found >>= (λ word. words_of (texts_at (drop (i + 1) texts)) >>= (λ words. Ok (word ∷ words)))) (sym here))

pub all_read : (texts : List (Bor (List ℕ))) (i : ℕ) (before : List Hash64) → length texts ≤ i → AreReadTo texts i before → words_of (texts_at texts) ≡ Ok before
all_read texts i before past so_far =
    so_far.whole
    ∙ ap (behind before) (at_drop_all (λ left. words_of (texts_at left)) texts i past ∙ words_of-nil)
    ∙ ap Ok (append-nil before)

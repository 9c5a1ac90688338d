-- Hexadecimal digits are read as the bytes, and the words, that they spell.
use Rattle.std.proofs.Common.{◌≡◌, ℕ, zero, suc, ◌*◌, ◌⊎◌, inl, inr, ◌<◌, ◌≤◌, nat_le, List, [], ◌∷◌, length, get_or, option_map, Result, Ok, Err, IsOk, refl, sym, ap, subst, ◌∙◌, arith}
use Rattle.std.specs.Prelude.{Any}
use Rattle.std.specs.List.{AllZip}
use Rattle.std.specs.Int.{w64, from_be_bytes}
use Rattle.std.specs.Option.{ok_or}
use Rattle.std.specs.Result.{result_ok}
use Rattle.std.proofs.lemmas.Bool.{leb-true, leb-false}
use Rattle.hex.specs.declared.error.FromHexError.{FromHexError}
use Rattle.hex.specs.Hex.{decode_of, decode_sized}
use Rattle.hex.proofs.HexLemmas.{IsOk-decode_sized, decode_sized-twice, decode_of-same, decode_of-digits}
use Rattle.media_types.specs.declared.hash.Hash64.{Hash64}
use Rattle.media_types.specs.declared.hash.Sha.{Sha}
use Rattle.media_types.specs.declared.limits.TheConstants.{MAX_HASHES}
use Rattle.media_base.specs.declared.refusal.Refusal.{Refusal}
use Rattle.media_base.specs.declared.refusal.Refusal.TheVariants as refusals
use Rattle.command_text.specs.Forms.{bytes_of, sha_of, word_of, words_of, few_hashes}
use Rattle.command_text.specs.Spelling.{IsDigits, IsShaText, IsWordText}
use Rattle.command_text.proofs.HexNumbers.{digits_number-bytes}
use Rattle.command_text.proofs.Steps.{Tells, tells_like, tells_test}

-- ---- bytes

-- The text is two digits for each of so many bytes, and spells these.
pub record SpellsBytes (count : ℕ) (text bytes : List ℕ) : Type 0 where
  pub digits : IsDigits (2 * count) text
  pub spell : decode_of text ≡ Ok bytes

-- The value is made of bytes that the text spells.
pub record IsMade {A : Type 0} (count : ℕ) (made : List ℕ → A) (text : List ℕ) (x : A) : Type 0 where
  pub bytes : List ℕ
  pub spells : SpellsBytes count text bytes
  pub is : made bytes ≡ x

abbrev made_of : {A : Type 0} → (List ℕ → A) → Result (List ℕ) FromHexError → Result A Refusal
made_of made found = ok_or (option_map made (result_ok found)) refusals.BadHash

not_ok : (error : FromHexError) → IsOk {T = List ℕ} (Err error) → ⊥
not_ok error ok = cc ok

module _ {A : Type 0} (count : ℕ) (made : List ℕ → A) (text : List ℕ) where
  tells_found : (found : Result (List ℕ) FromHexError) → decode_sized text count ≡ found
      → Tells (made_of made found) refusals.BadHash (¬ (IsDigits (2 * count) text)) (IsMade count made text)
  tells_found (Ok bytes) is =
      let ok = (IsOk-decode_sized text count).0 (rw is refl) in
      let spell : decode_of text ≡ Ok bytes = sym (decode_sized-twice text count ok.0) ∙ is in
      record {
        either = inr (made bytes, record { bytes = bytes; spells = record { digits = record { as_many = ok.0; hexadecimal = ok.1 }; spell = spell }; is = refl }, refl);
        good = λ x p. ap Ok (ap made (decode_of-same text bytes p.bytes spell p.spells.spell) ∙ p.is);
        bad = λ lacks. absurd (lacks (record { as_many = ok.0; hexadecimal = ok.1 }));
      }
  tells_found (Err error) is =
      let lacks : ¬ (IsDigits (2 * count) text) = λ digits. let ok = (IsOk-decode_sized text count).1 (digits.as_many, digits.hexadecimal) in not_ok error (subst (λ (found : Result (List ℕ) FromHexError). IsOk found) is ok) in
      record {
        either = inl (lacks, refl);
        good = λ x p. absurd (lacks p.spells.digits);
        bad = λ _. refl;
      }

  tells_bytes : Tells (bytes_of count made text) refusals.BadHash (¬ (IsDigits (2 * count) text)) (IsMade count made text)
  tells_bytes = tells_found (decode_sized text count) refl

-- ---- a SHA-256

pub tells_sha : (text : List ℕ) → Tells (sha_of text) refusals.BadHash (¬ (IsDigits 64 text)) (IsShaText text)
unfolding sha_of
tells_sha text =
    tells_like (tells_bytes 32 (λ bytes. record { 0 = bytes }) text)
    (λ sha p. record { digits = p.spells.digits; spell = subst (λ (sha : Sha). decode_of text ≡ Ok sha.0) p.is p.spells.spell })
    (λ sha p. record { bytes = sha.0; spells = record { digits = p.digits; spell = p.spell }; is = refl })

-- ---- words

abbrev word_with : List ℕ → Hash64
word_with bytes = record { 0 = from_be_bytes w64 bytes }

word_made : (text : List ℕ) (word : Hash64) → IsWordText text word → IsMade 8 word_with text word
word_made text word p =
    let sixteen : length text ≡ 16 = p.digits.as_many in
    let decoded = decode_of-digits text (omega (arith, sixteen)) p.digits.hexadecimal in
    record {
      bytes = decoded.0;
      spells = record { digits = p.digits; spell = decoded.1 };
      is = ap (λ (n : ℕ). record { 0 = n }) (sym (digits_number-bytes text decoded.0 sixteen decoded.1) ∙ p.write);
    }

pub tells_word : (text : List ℕ) → Tells (word_of text) refusals.BadHash (¬ (IsDigits 16 text)) (IsWordText text)
unfolding word_of
tells_word text =
    tells_like (tells_bytes 8 word_with text)
    (λ word p. record {
      digits = p.spells.digits;
      write = digits_number-bytes text p.bytes p.spells.digits.as_many p.spells.spell ∙ ap (λ (word : Hash64). word.0) p.is;
    })
    (word_made text)

abbrev pub NoWord : List ℕ → Type 0
NoWord text = ¬ (IsDigits 16 text)

abbrev pub Words : List (List ℕ) → List Hash64 → Type 0
Words texts words = AllZip IsWordText texts words

nil_words : (words : List Hash64) → Words [] words → words_of [] ≡ Ok words
unfolding words_of
nil_words [] p = refl
nil_words (word ∷ words) p = absurd p

first_bad : (text : List ℕ) (texts : List (List ℕ)) → NoWord text → Any NoWord (text ∷ texts)
first_bad text texts lacks = (0, text, omega arith, refl, lacks)

later_bad : (text : List ℕ) (texts : List (List ℕ)) → Any NoWord texts → Any NoWord (text ∷ texts)
later_bad text texts p = (suc p.0, p.1, omega (arith, p.2), p.3, p.4)

-- a bad text stands first, or behind
bad_at : (text : List ℕ) (texts : List (List ℕ)) (k : ℕ) (x : List ℕ) → k < length (text ∷ texts) → get_or (text ∷ texts) k x ≡ x → NoWord x → NoWord text ⊎ Any NoWord texts
bad_at text texts zero x within is lacks = inl (subst NoWord (sym is) lacks)
bad_at text texts (suc k) x within is lacks = inr (k, x, omega arith, is, lacks)

none_bad : Any NoWord [] → ⊥
none_bad p = omega (arith, p.2)

module _ (text : List ℕ) (texts : List (List ℕ)) (first : Tells (word_of text) refusals.BadHash (NoWord text) (IsWordText text)) (others : Tells (words_of texts) refusals.BadHash (Any NoWord texts) (Words texts)) where
  cons_either : (Any NoWord (text ∷ texts) × (words_of (text ∷ texts) ≡ Err refusals.BadHash)) ⊎ ((words : List Hash64) × Words (text ∷ texts) words × (words_of (text ∷ texts) ≡ Ok words))
  unfolding words_of
  cons_either =
      elim first.either [
        | inl bad ↦ inl (first_bad text texts bad.0, rw (bad.1) refl)
        | inr good ↦
            elim others.either [
              | inl bad ↦ inl (later_bad text texts bad.0, rw (good.2, bad.1) refl)
              | inr rest ↦ inr (good.0 ∷ rest.0, (good.1, rest.1), rw (good.2, rest.2) refl)
            ]
      ]

  cons_good : (words : List Hash64) → Words (text ∷ texts) words → words_of (text ∷ texts) ≡ Ok words
  unfolding words_of
  cons_good [] p = absurd p
  cons_good (word ∷ words) p = rw (first.good word p.0, others.good words p.1) refl

  cons_bad : Any NoWord (text ∷ texts) → words_of (text ∷ texts) ≡ Err refusals.BadHash
  unfolding words_of
  cons_bad p =
      elim first.either [
        | inl bad ↦ rw (bad.1) refl
        | inr good ↦
            elim (bad_at text texts p.0 p.1 p.2 p.3 p.4) [
              | inl lacks ↦ absurd (lacks good.1.digits)
              | inr later ↦ rw (good.2, others.bad later) refl
            ]
      ]

pub tells_words : (texts : List (List ℕ)) → Tells (words_of texts) refusals.BadHash (Any NoWord texts) (Words texts)
unfolding words_of
tells_words [] = record {
  either = inr ([], tt, refl);
  good = λ words p. nil_words words p;
  bad = λ p. absurd (none_bad p);
}
tells_words (text ∷ texts) =
    let first = tells_word text in
    let others = tells_words texts in
    record {
      either = cons_either text texts first others;
      good = cons_good text texts first others;
      bad = cons_bad text texts first others;
    }

-- lacks more than a file has
pub tells_few : (words : List Hash64) → Tells (few_hashes words) refusals.TooManyHashes (MAX_HASHES < length words) (λ hashes. (hashes ≡ words) × (length words ≤ MAX_HASHES))
unfolding few_hashes
tells_few words =
    tells_test (nat_le (length words) MAX_HASHES) words refusals.TooManyHashes (MAX_HASHES < length words) (length words ≤ MAX_HASHES)
    (leb-true (length words) MAX_HASHES) (leb-false (length words) MAX_HASHES) (λ few many. omega arith)

-- The table of words: what a look-up answers, and that a new word goes last.
use Rattle.std.proofs.Common.{◌≡◌, ◌<◌, ◌+◌, ◌==◌, ℕ, suc, Bool, true, false, Option, List, [], ◌∷◌, ◌++◌, length, length-append, length-take, append_assoc, take, get_or, if◌then◌else◌, IsSome, ap, sym, ◌∙◌, arith}
use Rattle.std.specs.List.{position, list_any}
use Rattle.std.specs.Option.{is_some}
use Rattle.std.proofs.lemmas.Bool.{eq-eqb, eqb-true, ne_eqb}
use Rattle.std.proofs.lemmas.Bool.Decides.{same_from_decides, Decides-eqb}
use Rattle.std.proofs.lemmas.List.{get_or-take, get_or_default, take_more}
use Rattle.std.proofs.lemmas.List.Folds.{list_any_none}
use Rattle.indexmap.specs.IndexSet.{insert_key}
use Rattle.media_types.specs.declared.hash.Hash64.{Hash64}
use Rattle.media_types.specs.contracts.hash.Hash64PartialEq.TheImpl.{eq-value}
use Rattle.file_records.specs.Words.{is_among, number_of, AreDistinctWords}

-- ---- look-ups
turned : (word w : Hash64) → eq-value.it word w ≡ (w.0 == word.0)
turned word w = same_from_decides _ _ (Decides-eqb word.0 w.0) (λ same. sym (eqb-true w.0 word.0 same), λ same. eq-eqb w.0 word.0 (sym same))

pub number_seen : (word : Hash64) (words : List Hash64) → position (eq-value.it word) words ≡ number_of word words
number_seen word words = ap (λ (t : Hash64 → Bool). position t words) (λ j w. turned word w j)

pub among_seen : (word : Hash64) (words : List Hash64) → list_any (eq-value.it word) words ≡ is_among words word
among_seen word words = ap (λ (t : Hash64 → Bool). list_any t words) (λ j w. turned word w j)

-- ---- a new word
-- a word isn't among those before it
fresh : (words : List Hash64) (n : ℕ) (d : Hash64) → AreDistinctWords words → n < length words → is_among (take n words) (get_or words n d) ≡ false
fresh words n d distinct within =
    list_any_none (λ w. w.0 == (get_or words n d).0) (take n words) (λ k e lt.
    let before : k < n = omega (arith, length-take n words) in
    ne_eqb _ _ (λ same. distinct k n d before within
    (sym (get_or_default words k e d (omega arith)) ∙ sym (get_or-take n words k e before) ∙ ap (λ (bits : ℕ). record { 0 = bits }) same)))

-- the words before one of the new words, and that one
first_of_all : (old new : List Hash64) (i : ℕ) (d : Hash64) → i < length new →
    (take (length old + i) (old ++ new) ≡ old ++ take i new) × (get_or (old ++ new) (length old + i) d ≡ get_or new i d)
first_of_all [] new i d within = (ap (λ n. take n new) (omega arith), ap (λ n. get_or new n d) (omega arith))
first_of_all (word ∷ old) new i d within =
    let rest = first_of_all old new i d within in
    let at : length (word ∷ old) + i ≡ suc (length old + i) = omega arith in
    (ap (λ n. take n (word ∷ (old ++ new))) at ∙ ap (λ ws. word ∷ ws) rest.0, ap (λ n. get_or (word ∷ (old ++ new)) n d) at ∙ rest.1)

pub put_more : (old new before after : List Hash64) (i : ℕ) (d : Hash64) → AreDistinctWords (old ++ new) → i < length new →
    before ≡ old ++ take i new → after ≡ insert_key eq-value.it before (get_or new i d) → after ≡ old ++ take (i + 1) new
put_more old new before after i d distinct within is put =
    let word = get_or new i d in
    let first = first_of_all old new i d within in
    let missing : is_among before word ≡ false =
    ap (λ ws. is_among ws word) is ∙ sym (ap (λ ws. is_among ws word) first.0) ∙ sym (ap (is_among (take (length old + i) (old ++ new))) first.1)
    ∙ fresh (old ++ new) (length old + i) d distinct (omega (arith, length-append old new)) in
    put ∙ ap (λ b. if b then before else before ++ word ∷ []) (among_seen word before ∙ missing)
    ∙ ap (λ ws. ws ++ word ∷ []) is ∙ append_assoc old (take i new) (word ∷ []) ∙ ap (λ ws. old ++ ws) (sym (take_more new i d within))

-- ---- a word that is there has a number
pub has_place : (word : Hash64) (words : List Hash64) (found : Option ℕ) → is_some found ≡ list_any (eq-value.it word) words → is_among words word ≡ true → IsSome found
has_place word words found is there = is ∙ among_seen word words ∙ there

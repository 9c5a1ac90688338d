-- Cutting bytes into lines.
use Rattle.std.proofs.Common.{◌≡◌, ◌≢◌, ◌<◌, ◌≤◌, ℕ, suc, Bool, true, false, eqb, eq-eqb, List, [], ◌∷◌, ◌++◌, length, get_or, take, drop, drop-cons, add-one, refl, sym, ap, ◌∙◌, append_assoc, arith}
use Rattle.std.specs.List.{AllByRecursion, flat_map}
use Rattle.std.proofs.lemmas.Bool.{eqb-true, eqb-false}
use Rattle.std.proofs.lemmas.List.{take-append-drop, drop-drop, length-take, get_or-take}
use Rattle.memchr.specs.Find.{Nowhere, Passes, is_byte}
use Rattle.std.proofs.lemmas.List.Concat.{flat_map-append}
use Rattle.media_tool.specs.Lines.{HasNoFeed, with_feed, Cut, with_rest}

pub AllByRecursion-append : {X : Type 0} (P : X → Type 0) (xs ys : List X) → AllByRecursion P xs → AllByRecursion P ys → AllByRecursion P (xs ++ ys)
AllByRecursion-append P [] ys p q = q
AllByRecursion-append P (x ∷ xs) ys p q = (p.0, AllByRecursion-append P xs ys p.1 q)

-- bytes without a line feed are an unfinished line
pub cut_none : (line : List ℕ) → HasNoFeed line → Cut line [] line
cut_none line unfinished = record { whole = refl; each = tt; unfinished = unfinished }

-- one line and its line feed, and then bytes that are cut so
pub cut_line : (line more : List ℕ) (lines : List (List ℕ)) (rest : List ℕ) → HasNoFeed line → Cut more lines rest → Cut (with_feed line ++ more) (line ∷ lines) rest
cut_line line more lines rest no_feed cut = record {
  whole = ap (λ (bytes : List ℕ). with_feed line ++ bytes) cut.whole ∙ sym (append_assoc (with_feed line) (flat_map with_feed lines) rest);
  each = (no_feed, cut.each);
  unfinished = cut.unfinished;
}

-- the bytes of one cut, whose rest with more bytes is cut again
pub cut_more : (a b : List ℕ) (first second : List (List ℕ)) (mid rest : List ℕ) → Cut a first mid → Cut (mid ++ b) second rest → Cut (a ++ b) (first ++ second) rest
cut_more a b first second mid rest p q = record {
  whole = ap (λ (bytes : List ℕ). bytes ++ b) p.whole ∙ append_assoc (flat_map with_feed first) mid b ∙ ap (λ (bytes : List ℕ). flat_map with_feed first ++ bytes) q.whole
      ∙ sym (append_assoc (flat_map with_feed first) (flat_map with_feed second) rest) ∙ ap (λ (bytes : List ℕ). bytes ++ rest) (sym (flat_map-append with_feed first second));
  each = AllByRecursion-append HasNoFeed first second p.each q.each;
  unfinished = q.unfinished;
}

-- a byte before bytes that are cut
pub some_cut : (bytes : List ℕ) → (lines : List (List ℕ)) × (rest : List ℕ) × Cut bytes lines rest
some_cut [] = ([], [], cut_none [] tt)
some_cut (byte ∷ bytes) = after (eqb byte 10) refl (some_cut bytes)
  where
    onto : byte ≢ 10 → (lines : List (List ℕ)) (rest : List ℕ) → Cut bytes lines rest → (all : List (List ℕ)) × (last : List ℕ) × Cut (byte ∷ bytes) all last
    onto other [] rest cut = ([], byte ∷ rest, record { whole = ap (λ (bs : List ℕ). byte ∷ bs) cut.whole; each = tt; unfinished = (other, cut.unfinished) })
    onto other (line ∷ lines) rest cut = ((byte ∷ line) ∷ lines, rest, record { whole = ap (λ (bs : List ℕ). byte ∷ bs) cut.whole; each = ((other, cut.each.0), cut.each.1); unfinished = cut.unfinished })

    after : (is_feed : Bool) → eqb byte 10 ≡ is_feed → (lines : List (List ℕ)) × (rest : List ℕ) × Cut bytes lines rest → (all : List (List ℕ)) × (last : List ℕ) × Cut (byte ∷ bytes) all last
    after true is some = ([] ∷ some.0, some.1, record { whole = ap (λ (b : ℕ). b ∷ bytes) (eqb-true byte 10 is) ∙ ap (λ (bs : List ℕ). 10 ∷ bs) some.2.whole; each = (tt, some.2.each); unfinished = some.2.unfinished })
    after false is some = onto (eqb-false byte 10 is) some.0 some.1 some.2

-- the rest stays the last line, whatever lines come before
pub with_rest-append : (first second : List (List ℕ)) (rest : List ℕ) → with_rest (first ++ second) rest ≡ first ++ with_rest second rest
with_rest-append first second [] = refl
with_rest-append first second (byte ∷ bytes) = append_assoc first second ((byte ∷ bytes) ∷ [])

-- no byte of the list is a line feed, by places
pub no_feed_from : (bytes : List ℕ) → ((k : ℕ) → k < length bytes → get_or bytes k 0 ≡ 10 → ⊥) → HasNoFeed bytes
no_feed_from [] none = tt
no_feed_from (byte ∷ bytes) none = (none 0 (omega arith), no_feed_from bytes (λ k within. none (suc k) (omega arith)))

-- a search for a line feed that found none
pub no_feed_found : (bytes : List ℕ) → Nowhere (Passes (is_byte 10) bytes) 0 (length bytes) → HasNoFeed bytes
no_feed_found bytes none = no_feed_from bytes (λ k within is. none k (omega arith) within (eq-eqb _ _ is))

-- a search that found one
pub no_feed_before : (bytes : List ℕ) (at : ℕ) → at ≤ length bytes → Nowhere (Passes (is_byte 10) bytes) 0 at → HasNoFeed (take at bytes)
no_feed_before bytes at within none =
    no_feed_from (take at bytes) (λ k below is. let lt : k < at = omega (arith, length-take at bytes) in none k (omega arith) lt (eq-eqb _ _ (sym (get_or-take at bytes k 0 lt) ∙ is)))

-- the bytes are the line, its line feed and the rest
pub split_at_feed : (bytes : List ℕ) (at : ℕ) → at < length bytes → get_or bytes at 0 ≡ 10 → bytes ≡ with_feed (take at bytes) ++ drop 1 (drop at bytes)
split_at_feed bytes at within is =
    sym (take-append-drop at bytes) ∙ ap (λ (rest : List ℕ). take at bytes ++ rest) (drop-cons bytes at 0 within ∙ ap (λ (byte : ℕ). byte ∷ drop (suc at) bytes) is)
    ∙ sym (append_assoc (take at bytes) (10 ∷ []) (drop (suc at) bytes)) ∙ ap (λ (rest : List ℕ). with_feed (take at bytes) ++ rest) (sym (drop-drop 1 at bytes ∙ ap (λ (n : ℕ). drop n bytes) (add-one at)))

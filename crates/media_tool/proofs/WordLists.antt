-- Lists of two words.
use Rattle.std.proofs.Common.{◌≡◌, ℕ, ◌<◌, ◌≤◌, List, [], ◌∷◌, length, get_or, map, string_bytes, String, Global, Bool, refl, sym, ap, ◌∙◌, arith}
use Rattle.std.specs.Prelude.{IsTrue, codes}
use Rattle.std.specs.Str.{bytes_eq}
use Rattle.std.proofs.lemmas.Slice.Eq.{bytes_eq-Decides}
use Rattle.media_tool.specs.Words.{play_words}

abbrev pub pair : List ℕ → List ℕ → List (List ℕ)
pair first second = first ∷ second ∷ []

pub two_words : (words : List (String Global)) (a b : String Global) → 2 ≤ length words → length words < 3 → a ≡ get_or words 0 a → b ≡ get_or words 1 b → map string_bytes words ≡ pair (string_bytes a) (string_bytes b)
two_words [] a b low high is_a is_b = absurd (omega arith)
two_words (x ∷ []) a b low high is_a is_b = absurd (omega arith)
two_words (x ∷ y ∷ []) a b low high is_a is_b = rw (← is_a, ← is_b) refl
two_words (x ∷ y ∷ z ∷ words) a b low high is_a is_b = absurd (omega arith)

-- the first is "play", and a test says whether the second is "-"
pub play_words_test : (words : List (List ℕ)) (first second : List ℕ) (test : Bool) → words ≡ pair first second → first ≡ codes "play" → test ≡ bytes_eq second (codes "-")
    → (IsTrue test → words ≡ play_words) × (words ≡ play_words → IsTrue test)
play_words_test words first second test are play is =
    let decides = bytes_eq-Decides second (codes "-") in (
      λ passed. are ∙ ap (λ (word : List ℕ). pair word second) play ∙ ap (λ (word : List ℕ). pair (codes "play") word) (decides.0 (sym is ∙ passed)),
      λ all. let same : pair first second ≡ play_words = sym are ∙ all in is ∙ decides.1 cc,
    )

-- Tags are numbered by first use.
use Rattle.std.specs.Prelude.{◌≡◌, ◌≢◌, ◌<◌, ◌≤◌, ◌⊎◌, ℕ, Bool, true, not, if◌then◌else◌, List, [], ◌∷◌, ◌++◌, length, Option, position, bytes_eq}
use Rattle.std.specs.List.{AllPairs, list_any, position_or_len}
use Rattle.tag_types.specs.declared.limits.TheConstants.{MAX_TAGS}

-- a tag has this text
abbrev pub is_tag : List ℕ → List (List ℕ) → Bool
is_tag text texts = list_any (bytes_eq text) texts

-- the number of the tag of this text, where it has one: its place
abbrev pub number_of : List ℕ → List (List ℕ) → Option ℕ
number_of text texts = position (bytes_eq text) texts

-- the number that it has, or would have as the next one
abbrev pub number_or_next : List ℕ → List (List ℕ) → ℕ
number_or_next text texts = position_or_len (bytes_eq text) texts

-- the texts, with this one behind them where it is new
abbrev pub with_tag : List (List ℕ) → List ℕ → List (List ℕ)
with_tag texts text = if is_tag text texts then texts else texts ++ text ∷ []

-- the number that the second text has or would have, once the first is numbered
abbrev pub number_behind : List ℕ → List ℕ → List (List ℕ) → ℕ
number_behind first second texts = number_or_next second (with_tag texts first)

-- the second text has no number, once the first is numbered
abbrev pub is_new_behind : List ℕ → List ℕ → List (List ℕ) → Bool
is_new_behind first second texts = not (is_tag second (with_tag texts first))

-- no two tags have the same text
abbrev pub AreDistinctTexts : List (List ℕ) → Type 0
AreDistinctTexts texts = AllPairs (λ a b. a ≢ b) texts

-- what a contract sees of the tags: their texts, and how many more there is room for
pub record Numbered : Type 0 where
  pub texts : List (List ℕ)
  pub spare : ℕ

-- the texts of all tables: no more than a library has, and no two the same
pub record AreNumbered (texts : List (List ℕ)) : Type 0 where
  pub few : length texts ≤ MAX_TAGS
  pub distinct : AreDistinctTexts texts

-- a tag has this text, or there may be one more
abbrev pub HasPlaceFor : List ℕ → List (List ℕ) → Type 0
HasPlaceFor text texts = (is_tag text texts ≡ true) ⊎ (length texts < MAX_TAGS)

-- How the text of a tag is cleaned.
use Rattle.std.specs.Prelude.{◌≡◌, ℕ, ◌&&◌, nat_le, nat_lt, if◌then◌else◌, List, length, map, filter, Option, Some, None, encode_utf8_all}
use Rattle.std.specs.Char.{is_whitespace, to_ascii_lowercase}
use Rattle.std.specs.List.{join_with_byte, slice_split}
use Rattle.std.specs.Str.{chars}
use Rattle.tag_types.specs.declared.limits.TheConstants.{MAX_TAG_BYTES}

-- the words of a text: its runs of characters that aren't white space
abbrev pub words : List ℕ → List (List ℕ)
words text = filter (λ run. nat_lt 0 (length run)) (slice_split is_whitespace text)

-- A to Z become a to z, and all else stays
abbrev pub lowered : List ℕ → List ℕ
lowered word = map to_ascii_lowercase word

-- the words, lowered, with one space between each two
unfoldable pub cleaned : List ℕ → List ℕ
cleaned text = join_with_byte 32 (map lowered (words text))

-- the bytes, where they are 1 to 1,024
abbrev pub as_tag : List ℕ → Option (List ℕ)
as_tag bytes = if nat_le 1 (length bytes) && nat_le (length bytes) MAX_TAG_BYTES then Some bytes else None

-- the tag that a text in UTF-8 says: the bytes of the cleaned text, where they are 1 to 1,024
unfoldable pub tag_of : List ℕ → Option (List ℕ)
tag_of text = as_tag (encode_utf8_all (cleaned (chars text)))

-- the bytes are a tag: cleaned, they stay as they are
abbrev pub IsTag : List ℕ → Type 0
IsTag bytes = tag_of bytes ≡ Some bytes

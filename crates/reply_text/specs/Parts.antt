-- What may stand behind a field's name in a reply, and how it is written: as JSON without spaces.
use Rattle.std.specs.Prelude.{ℕ, Bool, ◌+◌, ◌/◌, ◌%◌, ◌==◌, List, [], ◌∷◌, ◌++◌, codes, decimal, nat_lt, if◌then◌else◌}
use Rattle.std.specs.List.{flat_map}
use Rattle.media_types.specs.declared.numbers.FileNo.{FileNo}

-- ---- lists

-- the texts of the items, with the separator between each two
abbrev pub joined_text : {A : Type 0} → List ℕ → (A → List ℕ) → List A → List ℕ
joined_text separator text [] = []
joined_text separator text (item ∷ items) = text item ++ flat_map (λ other. separator ++ text other) items

-- the items behind an opening, and what closes them
abbrev pub enclosed_text : {A : Type 0} → List ℕ → List ℕ → (A → List ℕ) → List ℕ → List A → List ℕ
enclosed_text opening separator text closing items = opening ++ (joined_text separator text items ++ closing)

-- in brackets, with a comma between each two
abbrev pub list_text : {A : Type 0} → (A → List ℕ) → List A → List ℕ
list_text text items = enclosed_text (codes "[") (codes ",") text (codes "]") items

-- ---- texts

-- a digit of 0 to 15, in lower case
abbrev pub hex_digit : ℕ → ℕ
hex_digit n = if nat_lt n 10 then 48 + n else 87 + n

-- a byte of a text in quotes, with the escapes of RFC 8259 where it wants one
abbrev pub escaped : ℕ → List ℕ
escaped byte =
    if byte == 34 then codes "\\\""
    else if byte == 92 then codes "\\\\"
    else if byte == 8 then codes "\\b"
    else if byte == 9 then codes "\\t"
    else if byte == 10 then codes "\\n"
    else if byte == 12 then codes "\\f"
    else if byte == 13 then codes "\\r"
    else if nat_lt byte 32 then codes "\\u00" ++ (hex_digit (byte / 16) ∷ hex_digit (byte % 16) ∷ [])
    else byte ∷ []

abbrev pub quoted : List ℕ → List ℕ
quoted text = codes "\"" ++ (flat_map escaped text ++ codes "\"")

-- ---- parts

-- two files and their distance
abbrev pub Pair : Type 0
Pair = FileNo × FileNo × ℕ

pub data Part : Type 0 where
  a_number : ℕ → Part
  -- yes or no
  a_flag : Bool → Part
  a_text : List ℕ → Part
  tags : List (List ℕ) → Part
  files : List FileNo → Part
  pairs : List Pair → Part

abbrev pub file_text : FileNo → List ℕ
file_text file = decimal file.0

abbrev pub pair_text : Pair → List ℕ
pair_text pair = list_text decimal (pair.0.0 ∷ pair.1.0 ∷ pair.2 ∷ [])

abbrev pub part_text : Part → List ℕ
part_text (a_number n) = decimal n
part_text (a_flag b) = if b then codes "true" else codes "false"
part_text (a_text text) = quoted text
part_text (tags listed) = list_text quoted listed
part_text (files listed) = list_text file_text listed
part_text (pairs listed) = list_text pair_text listed

-- ---- objects

-- a name, which wants no escape, and what stands behind it
abbrev pub Field : Type 0
Field = List ℕ × Part

abbrev pub field_text : Field → List ℕ
field_text field = codes "\"" ++ (field.0 ++ (codes "\":" ++ part_text field.1))

unfoldable pub object_text : List Field → List ℕ
object_text fields = enclosed_text (codes "{") (codes ",") field_text (codes "}") fields

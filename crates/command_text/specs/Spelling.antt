-- What it is for a line to spell a command, or to have a fault, in plain facts about the line.
use Rattle.std.specs.Prelude.{◌≡◌, ℕ, ◌+◌, ◌*◌, ◌^◌, ◌<◌, ◌≤◌, ◌⊎◌, List, [], ◌∷◌, codes, length, map, fold, unwrap_or, Option, Some, None, Ok, IsTrue, All, Any}
use Rattle.std.specs.List.{AllPass, AllZip}
use Rattle.std.specs.Str.{IsUtf8}
use Rattle.hex.specs.Hex.{hex_digit_value, is_hex_digit, decode_of}
use Rattle.serde_json.specs.Data.{Data, unsigned, number, string, array}
use Rattle.serde_json.specs.Find.{get}
use Rattle.serde_json.specs.Read.{read}
use Rattle.serde_json.specs.View.{items_of}
use Rattle.media_types.specs.Batch.{IsBatch}
use Rattle.media_types.specs.declared.decision.Code.TheVariants as codes_of
use Rattle.media_types.specs.declared.hash.Hash64.{Hash64}
use Rattle.media_types.specs.declared.hash.Sha.{Sha}
use Rattle.media_types.specs.declared.limits.TheConstants.{MAX_DISTANCE, MAX_HASHES}
use Rattle.media_types.specs.declared.numbers.FileNo.{FileNo}
use Rattle.media_types.specs.declared.numbers.ServiceNo.{ServiceNo}
use Rattle.tag_types.specs.Cleaning as tags
use Rattle.tag_types.specs.ServiceLists.{AreDistinct}
use Rattle.tag_types.specs.declared.limits.TheConstants.{MAX_SERVICES}
use Rattle.tag_types.specs.declared.map_state.MapState.{MapState}
use Rattle.tag_types.specs.declared.map_state.MapState.TheVariants as states
use Rattle.media_base.specs.declared.command.Command.{Command}
use Rattle.media_base.specs.declared.refusal.FieldName.{FieldName}
use Rattle.media_base.specs.declared.refusal.FieldName.TheVariants as fields
use Rattle.media_base.specs.declared.refusal.Refusal.{Refusal}
use Rattle.media_base.specs.Names.{field_text, refusal_row}
use Rattle.command_text.specs.declared.asked_code.AskedCode.{AskedCode}
use Rattle.command_text.specs.declared.asked_code.AskedCode.TheVariants as asked_codes
use Rattle.command_text.specs.declared.request.TheConstants.{MAX_LINE}
use Rattle.command_text.specs.Commands.{CommandName, request_of}
use Rattle.command_text.specs.Forms.{Form, a_text, a_number, a_file, texts_or_none, some_files, a_code, a_service, an_order, a_state, a_file_beside, Said, Field, Test, is_sha, are_words, are_few, is_tag, is_near, is_batch, is_file_batch, Made, refusal_of, Asking, asks, tests, Asked}

-- ---- a line

-- The line isn't too long.
abbrev pub Fits : List ℕ → Type 0
Fits line = length line ≤ MAX_LINE

-- The line is JSON text of this value.
pub record IsTextOf (line : List ℕ) (value : Data) : Type 0 where
  pub utf8 : IsUtf8 line
  pub reads : read line ≡ Some value

-- The line is JSON text of no value.
abbrev pub HasNoReading : List ℕ → Type 0
HasNoReading line = (value : Data) → ¬ (IsTextOf line value)

-- The line isn't too long, and is JSON text of a value of which this holds.
pub record Spells (line : List ℕ) (Asks : Data → Type 0) : Type 0 where
  pub fits : Fits line
  pub value : Data
  pub reads : IsTextOf line value
  pub asks : Asks value

-- ---- a field

-- The value is an object in which the field has this value.
abbrev pub HasField : Data → FieldName → Data → Type 0
HasField value name inner = get (field_text name) value ≡ Some inner

abbrev pub HasNoField : Data → FieldName → Type 0
HasNoField value name = get (field_text name) value ≡ None

-- The field is this text.
abbrev pub HasText : Data → FieldName → List ℕ → Type 0
HasText value name text = HasField value name (string text)

-- The field is the list of these texts.
abbrev pub HasTexts : Data → FieldName → List (List ℕ) → Type 0
HasTexts value name texts = HasField value name (array (items_of (map string texts)))

-- The field is this whole number, which is below the limit.
pub record HasNumber (value : Data) (name : FieldName) (limit n : ℕ) : Type 0 where
  pub is : HasField value name (number (unsigned n))
  pub fits : n < limit

-- The field is the list of these files' numbers, which are below 2 ^ 32.
pub record HasFiles (value : Data) (name : FieldName) (files : List FileNo) : Type 0 where
  pub is : HasField value name (array (items_of (map (λ file. number (unsigned file.0)) files)))
  pub fit : All (λ file. file.0 < 2 ^ 32) files

-- The field is the list of these services' numbers, which are below 2 ^ 8: at most 8, and none twice.
pub record HasOrder (value : Data) (name : FieldName) (services : List ServiceNo) : Type 0 where
  pub is : HasField value name (array (items_of (map (λ service. number (unsigned service.0)) services)))
  pub fit : All (λ service. service.0 < 2 ^ 8) services
  pub few : length services ≤ MAX_SERVICES
  pub distinct : AreDistinct services

-- ---- hexadecimal digits

-- The text is so many hexadecimal digits, of either case.
pub record IsDigits (count : ℕ) (text : List ℕ) : Type 0 where
  pub as_many : length text ≡ count
  pub hexadecimal : AllPass is_hex_digit text

-- The text is 64 hexadecimal digits that spell its bytes.
pub record IsShaText (text : List ℕ) (sha : Sha) : Type 0 where
  pub digits : IsDigits 64 text
  pub spell : decode_of text ≡ Ok sha.0

-- the number that hexadecimal digits write, the first of them the highest
abbrev pub digits_number : List ℕ → ℕ
digits_number digits = fold (λ number digit. number * 16 + unwrap_or (hex_digit_value digit) 0) 0 digits

-- The text is 16 hexadecimal digits that write this word.
pub record IsWordText (text : List ℕ) (word : Hash64) : Type 0 where
  pub digits : IsDigits 16 text
  pub write : digits_number text ≡ word.0

-- ---- what a field says

-- the number of a decision's code; 7 is the better one named second
abbrev pub code_number : AskedCode → ℕ
code_number (asked_codes.As codes_of.NotRelated) = 1
code_number (asked_codes.As codes_of.Same) = 2
code_number (asked_codes.As codes_of.Alternates) = 3
code_number (asked_codes.As codes_of.Better) = 4
code_number asked_codes.Worse = 7

-- the name of a mapping's state
abbrev pub state_text : MapState → List ℕ
state_text states.Current = codes "current"
state_text states.Pending = codes "pending"
state_text states.Deleted = codes "deleted"

-- The field is this file's number; where it is none, this field and the other are missing.
abbrev pub HasFileBeside : Data → FieldName → FieldName → Option FileNo → Type 0
HasFileBeside value name other None = HasNoField value name × HasNoField value other
HasFileBeside value name other (Some file) = HasNumber value name (2 ^ 32) file.0

-- The field has this form, and says this.
abbrev pub Has : (value : Data) (name : FieldName) (form : Form) → Said form → Type 0
Has value name a_text text = HasText value name text
Has value name (a_number limit) n = HasNumber value name limit n
Has value name a_file file = HasNumber value name (2 ^ 32) file.0
Has value name texts_or_none texts = HasTexts value name texts ⊎ (HasNoField value name × (texts ≡ []))
Has value name some_files files = HasFiles value name files
Has value name a_code asked = HasField value name (number (unsigned (code_number asked)))
Has value name a_service service = HasNumber value name (2 ^ 8) service.0
Has value name an_order services = HasOrder value name services
Has value name a_state state = HasText value name (state_text state)
Has value name (a_file_beside other) file = HasFileBeside value name other file

-- what fields of these forms say
abbrev pub AllSaid : List Field → Type 0
AllSaid [] = Unit {0}
AllSaid (field ∷ fields) = Said field.1 × AllSaid fields

-- The fields have their forms, and say this.
abbrev pub HasAll : (value : Data) (fields : List Field) → AllSaid fields → Type 0
HasAll value [] said = Unit {0}
HasAll value (field ∷ fields) said = Has value field.0 field.1 said.0 × HasAll value fields said.1

-- what is asked with this
abbrev pub asked_with : (fields : List Field) → Asked fields → AllSaid fields → Asking
asked_with [] asking said = asking
asked_with (field ∷ fields) asked said = asked_with fields (asked said.0) said.1

-- ---- what the tests say

-- What is tested is good, and this is made of it.
abbrev pub IsGood : (test : Test) → Made test → Type 0
IsGood (is_sha text) sha = IsShaText text sha
IsGood (are_words texts) words = AllZip IsWordText texts words
IsGood (are_few words) hashes = (hashes ≡ words) × (length words ≤ MAX_HASHES)
IsGood (is_tag text) tag = tags.tag_of text ≡ Some tag
IsGood (is_near n) distance = (distance ≡ n) × (n ≤ MAX_DISTANCE)
IsGood (is_batch n) size = (size ≡ n) × IsBatch n
IsGood (is_file_batch files) batch = (batch ≡ files) × IsBatch (length files)

-- What is tested is bad.
abbrev pub IsBad : Test → Type 0
IsBad (is_sha text) = ¬ (IsDigits 64 text)
IsBad (are_words texts) = Any (λ text. ¬ (IsDigits 16 text)) texts
IsBad (are_few words) = MAX_HASHES < length words
IsBad (is_tag text) = tags.tag_of text ≡ None
IsBad (is_near n) = MAX_DISTANCE < n
IsBad (is_batch n) = ¬ (IsBatch n)
IsBad (is_file_batch files) = ¬ (IsBatch (length files))

-- All tests are passed, and this is the command.
abbrev pub Passes : Asking → Command → Type 0
Passes (asks asked) command = asked ≡ command
Passes (tests test next) command = (x : Made test) × IsGood test x × Passes (next x) command

-- The first test that isn't passed has this refusal.
abbrev pub Fails : Asking → Refusal → Type 0
Fails (asks asked) why = ⊥
Fails (tests test next) why = (IsBad test × (why ≡ refusal_of test)) ⊎ ((x : Made test) × IsGood test x × Fails (next x) why)

-- ---- what a value asks

-- The field `do` is the command's name.
abbrev pub IsNamed : Data → CommandName → Type 0
IsNamed value name = HasText value fields.Do (request_of name).text

-- `do` names a command, and its fields have their forms and say what makes this.
pub record HasForms (value : Data) (Is : Asking → Type 0) : Type 0 where
  pub name : CommandName
  pub named : IsNamed value name
  pub said : AllSaid (request_of name).fields
  pub has : HasAll value (request_of name).fields said
  pub is : Is (asked_with (request_of name).fields (request_of name).asked said)

-- The value asks this command.
abbrev pub Asks : Data → Command → Type 0
Asks value command = HasForms value (λ asking. Passes asking command)

-- All fields have their forms, and the first test that isn't passed has this refusal.
abbrev pub IsUnfit : Data → Refusal → Type 0
IsUnfit value why = HasForms value (λ asking. Fails asking why)

-- ---- what is wrong with a field

-- The field has its form.
abbrev pub HasForm : Data → Field → Type 0
HasForm value field = (x : Said field.1) × Has value field.0 field.1 x

-- It is the first of these fields that hasn't its form.
abbrev pub IsFirstOf : Data → List Field → FieldName → Type 0
IsFirstOf value [] name = ⊥
IsFirstOf value (field ∷ fields) name = ((name ≡ field.0) × ¬ (HasForm value field)) ⊎ (HasForm value field × IsFirstOf value fields name)

-- The field is the first, in the order of the command that `do` names, that hasn't its form; it is `do` where that names none.
pub data IsFirstFault (value : Data) (field : FieldName) : Type 0 where
  of_none : field ≡ fields.Do → ((name : CommandName) → ¬ (IsNamed value name)) → IsFirstFault value field
  of_command : (name : CommandName) → IsNamed value name → IsFirstOf value (request_of name).fields field → IsFirstFault value field

-- ---- what a line spells

abbrev pub SpellsCommand : List ℕ → Command → Type 0
SpellsCommand line command = Spells line (λ value. Asks value command)

abbrev pub SpellsFault : List ℕ → FieldName → Type 0
SpellsFault line field = Spells line (λ value. IsFirstFault value field)

abbrev pub SpellsUnfit : List ℕ → Refusal → Type 0
SpellsUnfit line why = Spells line (λ value. IsUnfit value why)

-- The line isn't too long, and is no JSON.
pub record IsNoJson (line : List ℕ) : Type 0 where
  pub fits : Fits line
  pub no_reading : HasNoReading line

-- It is one of the refusals that reading gives.
abbrev pub IsOfReading : Refusal → Type 0
IsOfReading why = IsTrue (refusal_row why).of_reading

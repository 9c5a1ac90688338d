-- How the fields of a request are read, form by form, and the tests that come after all of them.
use Rattle.std.specs.Prelude.{◌≡◌, ℕ, Bool, ◌^◌, ◌==◌, ◌⊎◌, ◌&&◌, List, [], ◌∷◌, codes, length, nat_lt, nat_le, if◌then◌else◌, Option, Some, None, option_map, option_and_then, Result, Ok, Err, MatchResult}
use Rattle.std.specs.Int.{w64, from_be_bytes}
use Rattle.std.specs.Option.{is_none, ok_or}
use Rattle.std.specs.Result.{result_ok}
use Rattle.std.specs.Set.{distinct_count}
use Rattle.std.specs.Str.{bytes_eq}
use Rattle.hex.specs.Hex.{decode_sized}
use Rattle.serde_json.specs.Data.{Data, Items, no_items, item}
use Rattle.serde_json.specs.Find.{get, as_str, as_number, as_u64, as_array}
use Rattle.media_types.specs.declared.decision.Code.TheVariants as codes_of
use Rattle.media_types.specs.declared.decision.Decision.{Decision}
use Rattle.media_types.specs.declared.hash.Hash64.{Hash64}
use Rattle.media_types.specs.declared.hash.Sha.{Sha}
use Rattle.media_types.specs.declared.limits.TheConstants.{MAX_BATCH, MAX_DISTANCE, MAX_HASHES}
use Rattle.media_types.specs.declared.numbers.FileNo.{FileNo}
use Rattle.media_types.specs.declared.numbers.ServiceNo.{ServiceNo}
use Rattle.tag_types.specs.Cleaning as tags
use Rattle.tag_types.specs.declared.limits.TheConstants.{MAX_SERVICES}
use Rattle.tag_types.specs.declared.map_state.MapState.{MapState}
use Rattle.tag_types.specs.declared.map_state.MapState.TheVariants as states
use Rattle.media_base.specs.declared.command.Command.{Command}
use Rattle.media_base.specs.declared.refusal.FieldName.{FieldName}
use Rattle.media_base.specs.declared.refusal.Refusal.{Refusal}
use Rattle.media_base.specs.declared.refusal.Refusal.TheVariants as refusals
use Rattle.media_base.specs.Names.{field_text}
use Rattle.command_text.specs.declared.asked_code.AskedCode.{AskedCode}
use Rattle.command_text.specs.declared.asked_code.AskedCode.TheVariants as asked_codes

-- the second step, if the first gave a value
infixl 10 ◌>>=◌
abbrev pub ◌>>=◌ : {A B : Type 0} → Result A Refusal → (A → Result B Refusal) → Result B Refusal
Ok x >>= f = f x
Err e >>= f = Err e

-- What a function returned is what reading gives, unless memory ran out.
abbrev pub Gives : {A : Type 0} → Result A Refusal → Result A Refusal → Type 0
Gives result reading = MatchResult result (λ x. reading ≡ Ok x) (λ e. (e ≡ refusals.NoMemory) ⊎ (reading ≡ Err e))

-- The same, where what it returned is seen as this.
abbrev pub GivesAs : {A B : Type 0} → (A → B) → Result A Refusal → Result B Refusal → Type 0
GivesAs seen result reading = MatchResult result (λ x. reading ≡ Ok (seen x)) (λ e. (e ≡ refusals.NoMemory) ⊎ (reading ≡ Err e))

-- ---- what a field says

-- the field, where the value is an object and has it
abbrev pub field_of : FieldName → Data → Option Data
field_of name value = get (field_text name) value

-- what the field says, or that the request is none because of it
abbrev pub formed : {A : Type 0} → FieldName → Option A → Result A Refusal
formed name found = ok_or found (refusals.NotARequest name)

-- the field's text, where it is one
abbrev pub text_of : FieldName → Data → Option (List ℕ)
text_of name value = option_and_then as_str (field_of name value)

-- the field's whole number, where it is one
abbrev pub number_of : FieldName → Data → Option ℕ
number_of name value = option_and_then as_u64 (option_and_then as_number (field_of name value))

-- the field's items, where it is a list
abbrev pub list_of : FieldName → Data → Option Items
list_of name value = option_and_then as_array (field_of name value)

-- what each item says, where each of them says something
abbrev pub each_of : {A : Type 0} → (Data → Option A) → Items → Option (List A)
each_of says no_items = Some []
each_of says (item value values) = option_and_then (λ first. option_map (λ others. first ∷ others) (each_of says values)) (says value)

abbrev pub below : ℕ → ℕ → Option ℕ
below limit n = if nat_lt n limit then Some n else None

-- texts only
abbrev pub texts_of : Items → Option (List (List ℕ))
texts_of items = each_of as_str items

-- none where the field is missing
abbrev pub texts_if_any : Option Data → Option (List (List ℕ))
texts_if_any None = Some []
texts_if_any (Some value) = option_and_then texts_of (as_array value)

-- a whole number below the limit
abbrev pub number_in : ℕ → Data → Option ℕ
number_in limit value = option_and_then (below limit) (option_and_then as_u64 (as_number value))

abbrev pub file_in : Data → Option FileNo
file_in value = option_map (λ n. record { 0 = n }) (number_in (2 ^ 32) value)

abbrev pub files_of : Items → Option (List FileNo)
files_of items = each_of file_in items

abbrev pub service_in : Data → Option ServiceNo
service_in value = option_map (λ n. record { 0 = n }) (number_in (2 ^ 8) value)

abbrev pub is_same_service : ServiceNo → ServiceNo → Bool
is_same_service a b = a.0 == b.0

-- no more services than a library has, and none twice
abbrev pub is_order : List ServiceNo → Bool
is_order services = nat_le (length services) MAX_SERVICES && (distinct_count is_same_service services == length services)

abbrev pub as_order : List ServiceNo → Option (List ServiceNo)
as_order services = if is_order services then Some services else None

abbrev pub order_of : Items → Option (List ServiceNo)
order_of items = option_and_then as_order (each_of service_in items)

-- what the number of a code asks: 1 not related, 2 same quality, 3 alternates, 4 better, 7 worse
abbrev pub asked_code : ℕ → Option AskedCode
asked_code number =
    if number == 1 then Some (asked_codes.As codes_of.NotRelated)
    else if number == 2 then Some (asked_codes.As codes_of.Same)
    else if number == 3 then Some (asked_codes.As codes_of.Alternates)
    else if number == 4 then Some (asked_codes.As codes_of.Better)
    else if number == 7 then Some asked_codes.Worse
    else None

-- the state of a mapping that has this name
abbrev pub state_of : List ℕ → Option MapState
state_of text =
    if bytes_eq text (codes "current") then Some states.Current
    else if bytes_eq text (codes "pending") then Some states.Pending
    else if bytes_eq text (codes "deleted") then Some states.Deleted
    else None

-- ---- what is made of it

-- what is made of so many bytes, which are two hexadecimal digits each
abbrev pub bytes_of : {A : Type 0} → ℕ → (List ℕ → A) → List ℕ → Result A Refusal
bytes_of count made text = ok_or (option_map made (result_ok (decode_sized text count))) refusals.BadHash

-- the 32 bytes of 64 hexadecimal digits
unfoldable pub sha_of : List ℕ → Result Sha Refusal
sha_of text = bytes_of 32 (λ bytes. record { 0 = bytes }) text

-- the word of 16 hexadecimal digits, the first the highest
unfoldable pub word_of : List ℕ → Result Hash64 Refusal
word_of text = bytes_of 8 (λ bytes. record { 0 = from_be_bytes w64 bytes }) text

unfoldable pub words_of : List (List ℕ) → Result (List Hash64) Refusal
words_of [] = Ok []
words_of (text ∷ texts) = do
  word ← word_of text
  words ← words_of texts
  Ok (word ∷ words)

-- no more hashes than a file has
unfoldable pub few_hashes : List Hash64 → Result (List Hash64) Refusal
few_hashes words = if nat_le (length words) MAX_HASHES then Ok words else Err refusals.TooManyHashes

-- Worse a b is better b a.
abbrev pub decision_of : AskedCode → FileNo → FileNo → Decision
decision_of (asked_codes.As code) a b = record { code = code; a = a; b = b }
decision_of asked_codes.Worse a b = record { code = codes_of.Better; a = b; b = a }

-- the place of a page of pairs: both of its files, or none
abbrev pub place_of : Option FileNo → Option FileNo → Option (FileNo × FileNo)
place_of (Some j) (Some k) = Some (j, k)
place_of (Some j) None = None
place_of None k = None

-- the cleaned tag of a text
unfoldable pub tag_of : List ℕ → Result (List ℕ) Refusal
tag_of text = ok_or (tags.tag_of text) refusals.BadTag

-- a distance within which files are searched
unfoldable pub distance_of : ℕ → Result ℕ Refusal
distance_of n = if nat_le n MAX_DISTANCE then Ok n else Err refusals.BadDistance

-- a number of things to do at once
unfoldable pub batch_of : ℕ → Result ℕ Refusal
batch_of n = if nat_le 1 n && nat_le n MAX_BATCH then Ok n else Err refusals.BadNumber

-- as many files as are searched at once
unfoldable pub files_batch : List FileNo → Result (List FileNo) Refusal
files_batch files = do
  count ← batch_of (length files)
  Ok files

-- ---- the forms of fields

-- the form that a field has
pub data Form : Type 0 where
  -- any text
  a_text : Form
  -- a whole number below the limit
  a_number : (limit : ℕ) → Form
  -- a file's number
  a_file : Form
  -- a list of texts, or no field
  texts_or_none : Form
  -- a list of files' numbers
  some_files : Form
  -- the number of a decision's code
  a_code : Form
  -- a service's number
  a_service : Form
  -- a list of services' numbers, at most 8 and none twice
  an_order : Form
  -- the name of a mapping's state
  a_state : Form
  -- a file's number; both this field and the other may be missing, and not one alone
  a_file_beside : (other : FieldName) → Form

-- what a field of this form says
abbrev pub Said : Form → Type 0
Said a_text = List ℕ
Said (a_number limit) = ℕ
Said a_file = FileNo
Said texts_or_none = List (List ℕ)
Said some_files = List FileNo
Said a_code = AskedCode
Said a_service = ServiceNo
Said an_order = List ServiceNo
Said a_state = MapState
Said (a_file_beside other) = Option FileNo

-- a field, and its form
abbrev pub Field : Type 0
Field = FieldName × Form

-- neither of the two fields is there
abbrev pub lacks_both : FieldName → FieldName → Data → Bool
lacks_both name other value = is_none (field_of name value) && is_none (field_of other value)

-- what the field says, where it has this form
abbrev pub says : (form : Form) → FieldName → Data → Option (Said form)
says a_text name value = text_of name value
says (a_number limit) name value = option_and_then (below limit) (number_of name value)
says a_file name value = option_and_then file_in (field_of name value)
says texts_or_none name value = texts_if_any (field_of name value)
says some_files name value = option_and_then files_of (list_of name value)
says a_code name value = option_and_then asked_code (number_of name value)
says a_service name value = option_and_then service_in (field_of name value)
says an_order name value = option_and_then order_of (list_of name value)
says a_state name value = option_and_then state_of (text_of name value)
says (a_file_beside other) name value = if lacks_both name other value then Some None else option_map (λ file. Some file) (option_and_then file_in (field_of name value))

unfoldable pub said_at : (name : FieldName) (form : Form) → Data → Result (Said form) Refusal
said_at name form value = formed name (says form name value)

-- ---- the tests behind the fields

-- what is tested once all fields have their forms
pub data Test : Type 0 where
  -- the text is a SHA-256
  is_sha : (text : List ℕ) → Test
  -- each text is a hash
  are_words : (texts : List (List ℕ)) → Test
  -- there are no more hashes than a file has
  are_few : (words : List Hash64) → Test
  -- the text says a tag
  is_tag : (text : List ℕ) → Test
  -- files are searched within this distance
  is_near : (distance : ℕ) → Test
  -- so many things are done at once
  is_batch : (n : ℕ) → Test
  -- so many files are searched at once
  is_file_batch : (files : List FileNo) → Test

-- what the test makes of the value
abbrev pub Made : Test → Type 0
Made (is_sha text) = Sha
Made (are_words texts) = List Hash64
Made (are_few words) = List Hash64
Made (is_tag text) = List ℕ
Made (is_near distance) = ℕ
Made (is_batch n) = ℕ
Made (is_file_batch files) = List FileNo

abbrev pub test_of : (test : Test) → Result (Made test) Refusal
test_of (is_sha text) = sha_of text
test_of (are_words texts) = words_of texts
test_of (are_few words) = few_hashes words
test_of (is_tag text) = tag_of text
test_of (is_near distance) = distance_of distance
test_of (is_batch n) = batch_of n
test_of (is_file_batch files) = files_batch files

-- the refusal of what fails the test
abbrev pub refusal_of : Test → Refusal
refusal_of (is_sha text) = refusals.BadHash
refusal_of (are_words texts) = refusals.BadHash
refusal_of (are_few words) = refusals.TooManyHashes
refusal_of (is_tag text) = refusals.BadTag
refusal_of (is_near distance) = refusals.BadDistance
refusal_of (is_batch n) = refusals.BadNumber
refusal_of (is_file_batch files) = refusals.BadNumber

-- ---- what is asked

-- a command, or a test and what is asked with what it makes
pub data Asking : Type 0 where
  asks : (command : Command) → Asking
  tests : (test : Test) (next : Made test → Asking) → Asking

abbrev pub tested : Asking → Result Command Refusal
tested (asks command) = Ok command
tested (tests test next) = test_of test >>= (λ x. tested (next x))

-- what is asked with what the fields say, one after another
abbrev pub Asked : List Field → Type 0
Asked [] = Asking
Asked (field ∷ fields) = Said field.1 → Asked fields

-- the fields in their order, and then the tests in theirs
abbrev pub read_fields : (fields : List Field) → Asked fields → Data → Result Command Refusal
read_fields [] asking value = tested asking
read_fields (field ∷ fields) asked value = said_at field.0 field.1 value >>= (λ x. read_fields fields (asked x) value)

-- a command's name in `do`, its fields in their order, and what is asked with what they say
pub record Request : Type 0 where
  pub text : List ℕ
  pub fields : List Field
  pub asked : Asked fields

unfoldable pub read_request : Request → Data → Result Command Refusal
read_request request value = read_fields request.fields request.asked value

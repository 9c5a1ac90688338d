-- What it is for a line to spell an import, a decision or a page of pairs, field by field and apart from the table.
use Rattle.std.specs.Prelude.{◌≡◌, ℕ, ◌^◌, ◌≤◌, ◌⊎◌, List, [], length, codes, Option, Some, None, Ok}
use Rattle.std.specs.List.{AllZip}
use Rattle.hex.specs.Hex.{decode_of}
use Rattle.serde_json.specs.Data.{Data, unsigned, number}
use Rattle.media_types.specs.Batch.{IsBatch}
use Rattle.media_types.specs.declared.decision.Code.{Code}
use Rattle.media_types.specs.declared.decision.Code.TheVariants as codes_of
use Rattle.media_types.specs.declared.decision.Decision.{Decision}
use Rattle.media_types.specs.declared.hash.Hash64.{Hash64}
use Rattle.media_types.specs.declared.limits.TheConstants.{MAX_DISTANCE, MAX_HASHES}
use Rattle.media_types.specs.declared.new_file.NewFile.{NewFile}
use Rattle.media_types.specs.declared.numbers.FileNo.{FileNo}
use Rattle.media_types.specs.declared.pair_page.PairPage.{PairPage}
use Rattle.media_base.specs.declared.refusal.FieldName.{FieldName}
use Rattle.media_base.specs.declared.refusal.FieldName.TheVariants as fields
use Rattle.command_text.specs.Spelling.{Spells, HasField, HasNoField, HasText, HasTexts, HasNumber, IsDigits, IsWordText}

-- ---- imports

-- The field is a text of 64 hexadecimal digits that spell these bytes.
pub record HasDigits (value : Data) (name : FieldName) (bytes : List ℕ) : Type 0 where
  pub text : List ℕ
  pub is : HasText value name text
  pub digits : IsDigits 64 text
  pub spell : decode_of text ≡ Ok bytes

-- The field is the list of these texts; where it is missing there are none.
abbrev pub HasAnyTexts : Data → FieldName → List (List ℕ) → Type 0
HasAnyTexts value name texts = HasTexts value name texts ⊎ (HasNoField value name × (texts ≡ []))

-- The texts of the field `hashes` write these words, no more than a file has.
pub record HasHashes (value : Data) (words : List Hash64) : Type 0 where
  pub texts : List (List ℕ)
  pub are : HasAnyTexts value fields.Hashes texts
  pub write : AllZip IsWordText texts words
  pub few : length words ≤ MAX_HASHES

pub record AsksImport (value : Data) (file : NewFile) : Type 0 where
  pub named : HasText value fields.Do (codes "import")
  pub sha : HasDigits value fields.Sha256 file.sha.0
  pub hashes : HasHashes value file.hashes
  pub size : HasNumber value fields.Size (2 ^ 64) file.size
  pub width : HasNumber value fields.Width (2 ^ 32) file.width
  pub height : HasNumber value fields.Height (2 ^ 32) file.height

abbrev pub SpellsImport : List ℕ → NewFile → Type 0
SpellsImport line file = Spells line (λ value. AsksImport value file)

-- ---- decisions

-- `code` is this number, `a` the first file and `b` the second.
pub record NamesFiles (value : Data) (n : ℕ) (first second : FileNo) : Type 0 where
  pub code : HasField value fields.Code (number (unsigned n))
  pub a : HasNumber value fields.A (2 ^ 32) first.0
  pub b : HasNumber value fields.B (2 ^ 32) second.0

-- The fields say this of the two files: better by 4, or by 7, worse, with the files the other way round.
abbrev pub Says : Data → Code → FileNo → FileNo → Type 0
Says value codes_of.NotRelated first second = NamesFiles value 1 first second
Says value codes_of.Same first second = NamesFiles value 2 first second
Says value codes_of.Alternates first second = NamesFiles value 3 first second
Says value codes_of.Better first second = NamesFiles value 4 first second ⊎ NamesFiles value 7 second first

pub record AsksDecide (value : Data) (decision : Decision) : Type 0 where
  pub named : HasText value fields.Do (codes "decide")
  pub says : Says value decision.code decision.a decision.b

abbrev pub SpellsDecide : List ℕ → Decision → Type 0
SpellsDecide line decision = Spells line (λ value. AsksDecide value decision)

-- ---- pages of pairs

-- The fields `after_j` and `after_k` are the two numbers of this place; where there is none, both are missing.
abbrev pub HasPlace : Data → Option (FileNo × FileNo) → Type 0
HasPlace value None = HasNoField value fields.AfterJ × HasNoField value fields.AfterK
HasPlace value (Some place) = HasNumber value fields.AfterJ (2 ^ 32) place.0.0 × HasNumber value fields.AfterK (2 ^ 32) place.1.0

pub record AsksPairs (value : Data) (page : PairPage) : Type 0 where
  pub named : HasText value fields.Do (codes "pairs")
  pub after : HasPlace value page.after
  pub n : HasNumber value fields.N (2 ^ 64) page.n
  pub at_most : HasNumber value fields.AtMost (2 ^ 64) page.at_most
  pub small : page.at_most ≤ MAX_DISTANCE
  pub batch : IsBatch page.n

abbrev pub SpellsPairs : List ℕ → PairPage → Type 0
SpellsPairs line page = Spells line (λ value. AsksPairs value page)

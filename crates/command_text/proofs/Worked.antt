-- The rows of an import, a decision and a page of pairs, read in full.
use Rattle.std.proofs.Common.{◌≡◌, ℕ, ◌^◌, ◌≤◌, ◌↔◌, Bool, true, false, List, Option, Some, None, Ok, inl, inr, refl, sym, ap, subst, ◌∙◌, rules}
use Rattle.std.proofs.lemmas.Bool.{false≢true}
use Rattle.serde_json.specs.Data.{Data}
use Rattle.media_types.specs.Batch.{IsBatch}
use Rattle.media_types.specs.declared.decision.Code.{Code}
use Rattle.media_types.specs.declared.decision.Code.TheVariants as codes_of
use Rattle.media_types.specs.declared.decision.Decision.{Decision}
use Rattle.media_types.specs.declared.limits.TheConstants.{MAX_DISTANCE}
use Rattle.media_types.specs.declared.new_file.NewFile.{NewFile}
use Rattle.media_types.specs.declared.numbers.FileNo.{FileNo}
use Rattle.media_types.specs.declared.pair_page.PairPage.{PairPage}
use Rattle.media_base.specs.declared.command.Command.{Command}
use Rattle.media_base.specs.declared.command.Command.TheVariants as commands
use Rattle.media_base.specs.declared.command.Query.TheVariants as queries
use Rattle.media_base.specs.declared.change.Change.TheVariants as changes
use Rattle.media_base.specs.declared.refusal.FieldName.TheVariants as fields
use Rattle.command_text.specs.declared.asked_code.AskedCode.{AskedCode}
use Rattle.command_text.specs.declared.asked_code.AskedCode.TheVariants as asked_codes
use Rattle.command_text.specs.Commands.{CommandName, request_of}
use Rattle.command_text.specs.Forms.{Made, Asking, asks, tests, decision_of, place_of}
use Rattle.command_text.specs.Reading.{line_command}
use Rattle.command_text.specs.Spelling.{Spells, HasNumber, code_number, HasFileBeside, AllSaid, HasAll, asked_with, Passes, IsNamed, Asks}
use Rattle.command_text.specs.Worked.{HasHashes, NamesFiles, Says, HasPlace, AsksImport, AsksDecide, AsksPairs, SpellsImport, SpellsDecide, SpellsPairs}
use Rattle.command_text.proofs.LineLaws.{line_law}

-- what is asked with what the fields of a command say
abbrev asking_of : (name : CommandName) → AllSaid (request_of name).fields → Asking
asking_of name said = asked_with (request_of name).fields (request_of name).asked said

-- Whatever the tests make, the command passes.
abbrev AsksAlways : (Command → Bool) → Asking → Type 0
AsksAlways is (asks command) = is command ≡ true
AsksAlways is (tests test next) = (x : Made test) → AsksAlways is (next x)

passes_always : (is : Command → Bool) (asking : Asking) (command : Command) → AsksAlways is asking → Passes asking command → is command ≡ true
passes_always is (asks asked) command always same = ap is (sym same) ∙ always
passes_always is (tests test next) command always passes = passes_always is (next passes.0) command (always passes.0) passes.2

-- what spells a command is one of the readings in full
spells_like : (line : List ℕ) (Plain : Data → Type 0) (command : Command) → ((value : Data) → Asks value command ↔ Plain value) → (line_command line ≡ Ok command) ↔ Spells line Plain
spells_like line Plain command same = (
  λ e. let s = (line_law line (Ok command)).0 e in record { fits = s.fits; value = s.value; reads = s.reads; asks = (same s.value).0 s.asks },
  λ s. (line_law line (Ok command)).1 (record { fits = s.fits; value = s.value; reads = s.reads; asks = (same s.value).1 s.asks }),
)

-- ---- imports

is_no_import : Command → Bool
is_no_import (commands.Do (changes.File file)) = false
is_no_import command = true

same_import : (a b : NewFile) → commands.Do (changes.File a) ≡ commands.Do (changes.File b) → a ≡ b
same_import a b e = cc e

import_of : (value : Data) (file : NewFile) (name : CommandName) (said : AllSaid (request_of name).fields) → IsNamed value name → HasAll value (request_of name).fields said
    → Passes (asking_of name said) (commands.Do (changes.File file)) → AsksImport value file
unfolding is_no_import
import_of value file CommandName.Import said named has is =
    subst (AsksImport value) (same_import _ file is.2.2.2) (record {
      named = named;
      sha = record { text = said.0; is = has.0; digits = is.1.digits; spell = is.1.spell };
      hashes = subst (HasHashes value) (sym is.2.2.1.0) (record { texts = said.1.0; are = has.1.0; write = is.2.1; few = is.2.2.1.1 });
      size = has.1.1.0;
      width = has.1.1.1.0;
      height = has.1.1.1.1.0;
    })
import_of value file name said named has is =
    absurd (false≢true (passes_always is_no_import (asking_of name said) (commands.Do (changes.File file)) (search rules) is))

import_asks : (value : Data) (file : NewFile) → Asks value (commands.Do (changes.File file)) ↔ AsksImport value file
import_asks value file = (
  λ asks. import_of value file asks.name asks.said asks.named asks.has asks.is,
  λ plain. record {
    name = CommandName.Import;
    named = plain.named;
    said = (plain.sha.text, (plain.hashes.texts, (file.size, (file.width, (file.height, tt)))));
    has = (plain.sha.is, (plain.hashes.are, (plain.size, (plain.width, (plain.height, tt)))));
    is = (file.sha, record { digits = plain.sha.digits; spell = plain.sha.spell }, (file.hashes, plain.hashes.write, (file.hashes, (refl, plain.hashes.few), refl)));
  },
)

pub import_reading : (line : List ℕ) (file : NewFile) → (line_command line ≡ Ok (commands.Do (changes.File file))) ↔ SpellsImport line file
import_reading line file = spells_like line (λ value. AsksImport value file) (commands.Do (changes.File file)) (λ value. import_asks value file)

-- ---- decisions

is_no_decision : Command → Bool
is_no_decision (commands.Do (changes.Decision decision)) = false
is_no_decision command = true

same_decision : (a b : Decision) → commands.Do (changes.Decision a) ≡ commands.Do (changes.Decision b) → a ≡ b
same_decision a b e = cc e

abbrev SaysThis : Data → Decision → Type 0
SaysThis value decision = Says value decision.code decision.a decision.b

-- what the code's field and the two files say
says_coded : (value : Data) (asked : AskedCode) (a b : FileNo) → NamesFiles value (code_number asked) a b → SaysThis value (decision_of asked a b)
says_coded value (asked_codes.As codes_of.NotRelated) a b names = names
says_coded value (asked_codes.As codes_of.Same) a b names = names
says_coded value (asked_codes.As codes_of.Alternates) a b names = names
says_coded value (asked_codes.As codes_of.Better) a b names = inl names
says_coded value asked_codes.Worse a b names = inr names

decision_of_fields : (value : Data) (decision : Decision) (name : CommandName) (said : AllSaid (request_of name).fields) → IsNamed value name → HasAll value (request_of name).fields said
    → Passes (asking_of name said) (commands.Do (changes.Decision decision)) → AsksDecide value decision
unfolding is_no_decision
decision_of_fields value decision CommandName.Decide said named has is = record {
  named = named;
  says = subst (SaysThis value) (same_decision _ decision is) (says_coded value said.0 said.1.0 said.1.1.0 (record { code = has.0; a = has.1.0; b = has.1.1.0 }));
}
decision_of_fields value decision name said named has is =
    absurd (false≢true (passes_always is_no_decision (asking_of name said) (commands.Do (changes.Decision decision)) (search rules) is))

-- the fields that say a decision
asks_coded : (value : Data) (decision : Decision) (asked : AskedCode) (a b : FileNo) → IsNamed value CommandName.Decide → NamesFiles value (code_number asked) a b → decision_of asked a b ≡ decision
    → Asks value (commands.Do (changes.Decision decision))
asks_coded value decision asked a b named names same = record {
  name = CommandName.Decide;
  named = named;
  said = (asked, (a, (b, tt)));
  has = (names.code, (names.a, (names.b, tt)));
  is = ap (λ (found : Decision). commands.Do (changes.Decision found)) same;
}

asks_said : (value : Data) (code : Code) (a b : FileNo) → IsNamed value CommandName.Decide → Says value code a b → Asks value (commands.Do (changes.Decision (record { code = code; a = a; b = b })))
asks_said value codes_of.NotRelated a b named names = asks_coded value _ (asked_codes.As codes_of.NotRelated) a b named names refl
asks_said value codes_of.Same a b named names = asks_coded value _ (asked_codes.As codes_of.Same) a b named names refl
asks_said value codes_of.Alternates a b named names = asks_coded value _ (asked_codes.As codes_of.Alternates) a b named names refl
asks_said value codes_of.Better a b named (inl names) = asks_coded value _ (asked_codes.As codes_of.Better) a b named names refl
asks_said value codes_of.Better a b named (inr names) = asks_coded value _ asked_codes.Worse b a named names refl

decide_asks : (value : Data) (decision : Decision) → Asks value (commands.Do (changes.Decision decision)) ↔ AsksDecide value decision
decide_asks value decision = (
  λ asks. decision_of_fields value decision asks.name asks.said asks.named asks.has asks.is,
  λ plain. asks_said value decision.code decision.a decision.b plain.named plain.says,
)

pub decide_reading : (line : List ℕ) (decision : Decision) → (line_command line ≡ Ok (commands.Do (changes.Decision decision))) ↔ SpellsDecide line decision
decide_reading line decision = spells_like line (λ value. AsksDecide value decision) (commands.Do (changes.Decision decision)) (λ value. decide_asks value decision)

-- ---- pages of pairs

is_no_page : Command → Bool
is_no_page (commands.Ask (queries.Pairs page)) = false
is_no_page command = true

same_page : (a b : PairPage) → commands.Ask (queries.Pairs a) ≡ commands.Ask (queries.Pairs b) → a ≡ b
same_page a b e = cc e

-- both fields say a file, or none does
place_said : (value : Data) (j k : Option FileNo) → HasFileBeside value fields.AfterJ fields.AfterK j → HasFileBeside value fields.AfterK fields.AfterJ k → HasPlace value (place_of j k)
place_said value None None has_j has_k = has_j
place_said value (Some j) (Some k) has_j has_k = (has_j, has_k)
place_said value None (Some k) has_j has_k = let none = has_j.1 in let some = has_k.is in cc
place_said value (Some j) None has_j has_k = let none = has_k.1 in let some = has_j.is in cc

page_of : (value : Data) (page : PairPage) (name : CommandName) (said : AllSaid (request_of name).fields) → IsNamed value name → HasAll value (request_of name).fields said
    → Passes (asking_of name said) (commands.Ask (queries.Pairs page)) → AsksPairs value page
unfolding is_no_page
page_of value page CommandName.Pairs said named has is =
    subst (AsksPairs value) (same_page _ page is.2.2) (record {
      named = named;
      after = place_said value said.0 said.1.0 has.0 has.1.0;
      n = subst (HasNumber value fields.N (2 ^ 64)) (sym is.2.1.0) has.1.1.0;
      at_most = subst (HasNumber value fields.AtMost (2 ^ 64)) (sym is.1.0) has.1.1.1.0;
      small = subst (λ (n : ℕ). n ≤ MAX_DISTANCE) (sym is.1.0) is.1.1;
      batch = subst IsBatch (sym is.2.1.0) is.2.1.1;
    })
page_of value page name said named has is =
    absurd (false≢true (passes_always is_no_page (asking_of name said) (commands.Ask (queries.Pairs page)) (search rules) is))

-- the fields that say a page
asks_page : (value : Data) (page : PairPage) (j k : Option FileNo) → HasFileBeside value fields.AfterJ fields.AfterK j → HasFileBeside value fields.AfterK fields.AfterJ k → place_of j k ≡ page.after
    → AsksPairs value page → Asks value (commands.Ask (queries.Pairs page))
asks_page value page j k has_j has_k same plain = record {
  name = CommandName.Pairs;
  named = plain.named;
  said = (j, (k, (page.n, (page.at_most, tt))));
  has = (has_j, (has_k, (plain.n, (plain.at_most, tt))));
  is = (page.at_most, (refl, plain.small), (page.n, (refl, plain.batch), ap (λ (after : Option (FileNo × FileNo)). commands.Ask (queries.Pairs (record { after = after; n = page.n; at_most = page.at_most }))) same));
}

asks_after : (value : Data) (page : PairPage) (after : Option (FileNo × FileNo)) → after ≡ page.after → HasPlace value after → AsksPairs value page → Asks value (commands.Ask (queries.Pairs page))
asks_after value page None same none plain = asks_page value page None None (none.0, none.1) (none.1, none.0) same plain
asks_after value page (Some place) same has plain = asks_page value page (Some place.0) (Some place.1) has.0 has.1 same plain

pairs_asks : (value : Data) (page : PairPage) → Asks value (commands.Ask (queries.Pairs page)) ↔ AsksPairs value page
pairs_asks value page = (
  λ asks. page_of value page asks.name asks.said asks.named asks.has asks.is,
  λ plain. asks_after value page page.after refl plain.after plain,
)

pub pairs_reading : (line : List ℕ) (page : PairPage) → (line_command line ≡ Ok (commands.Ask (queries.Pairs page))) ↔ SpellsPairs line page
pairs_reading line page = spells_like line (λ value. AsksPairs value page) (commands.Ask (queries.Pairs page)) (λ value. pairs_asks value page)

-- The field `do` is read as the command whose name it is.
use Rattle.std.proofs.Common.{◌≡◌, ℕ, ◌⊎◌, inl, inr, Bool, true, false, cond, List, [], ◌∷◌, Option, Some, None, option_and_then, Result, refl, ap, subst, ◌∙◌}
use Rattle.std.specs.Str.{bytes_eq}
use Rattle.std.proofs.lemmas.Slice.Eq.{bytes_eq-Decides}
use Rattle.serde_json.specs.Data.{Data}
use Rattle.media_base.specs.declared.command.Command.{Command}
use Rattle.media_base.specs.declared.refusal.FieldName.TheVariants as fields
use Rattle.media_base.specs.declared.refusal.Refusal.{Refusal}
use Rattle.media_base.specs.declared.refusal.Refusal.TheVariants as refusals
use Rattle.command_text.specs.Commands.{CommandName, tag_names, search_names, all_names, request_of}
use Rattle.command_text.specs.Forms.{◌>>=◌, formed, text_of, said_at, read_request}
use Rattle.command_text.specs.Reading.{first_at, value_command}
use Rattle.command_text.specs.Spelling.{HasText, IsNamed}
use Rattle.command_text.proofs.FieldLaws.{then_some, text_of-some, text_of-has}
use Rattle.command_text.proofs.Steps.{Tells, tells_formed}

-- the first of the commands that has this name
abbrev first_named : List CommandName → List ℕ → Option CommandName
first_named [] text = None
first_named (name ∷ names) text = cond (bytes_eq text (request_of name).text) (Some name) (first_named names text)

chosen : (test : Bool) (name other : CommandName) (rest : Option CommandName) → cond test (Some name) rest ≡ Some other → ((test ≡ true) × (name ≡ other)) ⊎ (rest ≡ Some other)
chosen true name other rest e = inl (refl, cc e)
chosen false name other rest e = inr e

first_named-some : (names : List CommandName) (text : List ℕ) (name : CommandName) → first_named names text ≡ Some name → text ≡ (request_of name).text
first_named-some [] text name e = cc e
first_named-some (first ∷ names) text name e =
    elim (chosen (bytes_eq text (request_of first).text) first name (first_named names text) e) [
      | inl p ↦ (bytes_eq-Decides text (request_of first).text).0 p.0 ∙ ap (λ (name : CommandName). (request_of name).text) p.1
      | inr later ↦ first_named-some names text name later
    ]

-- by computation, in each case
first_named-text : (name : CommandName) → first_named all_names (request_of name).text ≡ Some name
unfolding search_names tag_names
first_named-text CommandName.Import = refl
first_named-text name = refl

named-some : (value : Data) (name : CommandName) → option_and_then (first_named all_names) (text_of fields.Do value) ≡ Some name → IsNamed value name
named-some value name e =
    let p = then_some (first_named all_names) (text_of fields.Do value) name e in
    subst (λ (text : List ℕ). HasText value fields.Do text) (first_named-some all_names p.0 name p.2) (text_of-some fields.Do value p.0 p.1)

-- the name of a command
abbrev pub name_at : Data → Result CommandName Refusal
name_at value = formed fields.Do (option_and_then (first_named all_names) (text_of fields.Do value))

pub tells_name : (value : Data) → Tells (name_at value) (refusals.NotARequest fields.Do) (¬ ((name : CommandName) × IsNamed value name)) (IsNamed value)
tells_name value =
    tells_formed fields.Do (option_and_then (first_named all_names) (text_of fields.Do value)) (IsNamed value) (named-some value)
    (λ name named. ap (option_and_then (first_named all_names)) (text_of-has fields.Do value (request_of name).text named) ∙ first_named-text name)

-- what is asked of a command, once it has a name
abbrev pub asked_at : Data → CommandName → Result Command Refusal
asked_at value name = read_request (request_of name) value

module _ (value : Data) where
  chosen_at : (test : Bool) (name : CommandName) (names : List CommandName) (text : List ℕ) → first_at names text value ≡ (formed fields.Do (first_named names text) >>= asked_at value)
      → cond test (asked_at value name) (first_at names text value) ≡ (formed fields.Do (cond test (Some name) (first_named names text)) >>= asked_at value)
  chosen_at true name names text later = refl
  chosen_at false name names text later = later

  first_at-named : (names : List CommandName) (text : List ℕ) → first_at names text value ≡ (formed fields.Do (first_named names text) >>= asked_at value)
  first_at-named [] text = refl
  first_at-named (name ∷ names) text = chosen_at (bytes_eq text (request_of name).text) name names text (first_at-named names text)

  named_text : (found : Option (List ℕ)) → (formed fields.Do found >>= (λ text. first_at all_names text value)) ≡ (formed fields.Do (option_and_then (first_named all_names) found) >>= asked_at value)
  named_text None = refl
  named_text (Some text) = first_at-named all_names text

-- the name is read, and then what is asked of its command
pub value_command-named : (value : Data) → value_command value ≡ (name_at value >>= asked_at value)
unfolding value_command said_at
value_command-named value = named_text value (text_of fields.Do value)

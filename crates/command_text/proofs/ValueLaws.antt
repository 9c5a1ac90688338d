-- A value is read as what it means, and as nothing else.
use Rattle.std.proofs.Common.{◌≡◌, Result, Ok, Err, inl, inr, refl, sym, ap, subst, ◌∙◌}
use Rattle.serde_json.specs.Data.{Data}
use Rattle.media_base.specs.declared.command.Command.{Command}
use Rattle.media_base.specs.declared.refusal.FieldName.{FieldName}
use Rattle.media_base.specs.declared.refusal.FieldName.TheVariants as fields
use Rattle.media_base.specs.declared.refusal.Refusal.{Refusal}
use Rattle.media_base.specs.declared.refusal.Refusal.TheVariants as refusals
use Rattle.command_text.specs.Commands.{CommandName, request_of}
use Rattle.command_text.specs.Forms.{◌>>=◌, Test, is_sha, refusal_of, tested, read_request}
use Rattle.command_text.specs.Reading.{value_command}
use Rattle.command_text.specs.Spelling.{AllSaid, HasAll, asked_with, IsNamed, Asks, IsUnfit, IsFirstFault, of_none, of_command}
use Rattle.command_text.proofs.NameLaws.{name_at, tells_name, asked_at, value_command-named}
use Rattle.command_text.proofs.ReadLaws.{blamed, read_either, read_said, read_faulty, tested_either, tested_passes, tested_fails, fails_test}

-- It isn't told before the tests.
abbrev pub IsOfTest : Refusal → Type 0
IsOfTest refusals.LineTooLong = ⊥
IsOfTest refusals.NotJson = ⊥
IsOfTest (refusals.NotARequest field) = ⊥
IsOfTest why = Unit {0}

pub test_refusal : (test : Test) → IsOfTest (refusal_of test)
test_refusal (is_sha text) = tt
test_refusal test = tt

-- The value is refused for this.
abbrev pub Earns : Data → Refusal → Type 0
Earns value (refusals.NotARequest field) = IsFirstFault value field
Earns value why = IsUnfit value why

-- The value is to be read so.
abbrev pub Means : Data → Result Command Refusal → Type 0
Means value (Ok command) = Asks value command
Means value (Err why) = Earns value why

-- the test that it fails
pub unfit_fails : (value : Data) (why : Refusal) → IsUnfit value why → (test : Test) × (why ≡ refusal_of test)
unfit_fails value why unfit =
    fails_test (asked_with (request_of unfit.name).fields (request_of unfit.name).asked unfit.said) why unfit.is

pub unfit_test : (value : Data) (why : Refusal) → IsUnfit value why → IsOfTest why
unfit_test value why unfit =
    let p = unfit_fails value why unfit in
    subst IsOfTest (sym p.1) (test_refusal p.0)

unfit_earns : (value : Data) (why : Refusal) → IsUnfit value why → Earns value why
unfit_earns value (refusals.NotARequest field) unfit = absurd (unfit_test value (refusals.NotARequest field) unfit)
unfit_earns value why unfit = unfit

-- ---- what is read

-- the value of a command's name
named : (value : Data) (name : CommandName) → IsNamed value name → value_command value ≡ asked_at value name
named value name asks =
    value_command-named value ∙ ap (λ (found : Result CommandName Refusal). found >>= asked_at value) ((tells_name value).good name asks)

nameless : (value : Data) → name_at value ≡ Err (refusals.NotARequest fields.Do) → value_command value ≡ blamed fields.Do
nameless value none = value_command-named value ∙ ap (λ (found : Result CommandName Refusal). found >>= asked_at value) none

-- the value of a command whose fields have their forms
formed : (value : Data) (name : CommandName) (said : AllSaid (request_of name).fields) → IsNamed value name → HasAll value (request_of name).fields said
    → value_command value ≡ tested (asked_with (request_of name).fields (request_of name).asked said)
unfolding read_request
formed value name said asks has = named value name asks ∙ read_said value (request_of name).fields (request_of name).asked said has

faulty : (value : Data) (field : FieldName) → IsFirstFault value field → value_command value ≡ blamed field
unfolding read_request
faulty value field (of_none is lacks) = nameless value ((tells_name value).bad (λ p. lacks p.0 p.1)) ∙ ap blamed (sym is)
faulty value field (of_command name asks first) = named value name asks ∙ read_faulty value (request_of name).fields (request_of name).asked field first

formed_means : (value : Data) (name : CommandName) (said : AllSaid (request_of name).fields) → IsNamed value name → HasAll value (request_of name).fields said
    → Means value (tested (asked_with (request_of name).fields (request_of name).asked said))
formed_means value name said asks has =
    elim (tested_either (asked_with (request_of name).fields (request_of name).asked said)) [
      | inl p ↦ subst (Means value) (sym p.2) (unfit_earns value p.0 (record { name = name; named = asks; said = said; has = has; is = p.1 }))
      | inr p ↦ subst (Means value) (sym p.2) (record { name = name; named = asks; said = said; has = has; is = p.1 })
    ]

named_means : (value : Data) (name : CommandName) → IsNamed value name → Means value (asked_at value name)
unfolding read_request
named_means value name asks =
    elim (read_either value (request_of name).fields (request_of name).asked) [
      | inl p ↦ subst (Means value) (sym p.2) (of_command name asks p.1)
      | inr p ↦ subst (Means value) (sym p.2) (formed_means value name p.0 asks p.1)
    ]

pub means : (value : Data) → Means value (value_command value)
means value =
    elim (tells_name value).either [
      | inl none ↦ subst (Means value) (sym (nameless value none.1)) (of_none refl (λ name asks. none.0 (name, asks)))
      | inr name ↦ subst (Means value) (sym (named value name.0 name.1)) (named_means value name.0 name.1)
    ]

unfit_refused : (value : Data) (why : Refusal) → IsUnfit value why → value_command value ≡ Err why
unfit_refused value why unfit = formed value unfit.name unfit.said unfit.named unfit.has ∙ tested_fails _ why unfit.is

earned : (value : Data) (why : Refusal) → Earns value why → value_command value ≡ Err why
earned value (refusals.NotARequest field) fault = faulty value field fault
earned value why unfit = unfit_refused value why unfit

pub meant : (value : Data) (reading : Result Command Refusal) → Means value reading → value_command value ≡ reading
meant value (Ok command) asks = formed value asks.name asks.said asks.named asks.has ∙ tested_passes _ command asks.is
meant value (Err why) bad = earned value why bad

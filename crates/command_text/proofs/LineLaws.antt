-- A line is read as what it spells, and as nothing else.
use Rattle.std.proofs.Common.{◌≡◌, ℕ, ◌<◌, ◌⊎◌, ◌↔◌, inl, inr, Bool, true, false, cond, length, List, Option, Some, None, Result, Ok, Err, refl, sym, subst, ◌∙◌}
use Rattle.std.specs.Str.{is_utf8}
use Rattle.std.proofs.lemmas.Str.{IsUtf8-from_is_utf8}
use Rattle.serde_json.specs.Data.{Data}
use Rattle.serde_json.specs.Read.{read}
use Rattle.media_base.specs.declared.command.Command.{Command}
use Rattle.media_base.specs.declared.refusal.Refusal.{Refusal}
use Rattle.media_base.specs.declared.refusal.Refusal.TheVariants as refusals
use Rattle.command_text.specs.Reading.{line_value, value_command, line_command}
use Rattle.command_text.specs.Forms.{Test, is_sha, refusal_of}
use Rattle.command_text.specs.declared.request.TheConstants.{MAX_LINE}
use Rattle.command_text.specs.Spelling.{Asks, Fits, IsTextOf, HasNoReading, IsNoJson, Spells, SpellsUnfit, IsOfReading}
use Rattle.command_text.proofs.Lines.{line_value-utf8, text_command-value, line_command-long, line_command-fits, long_or_fits}
use Rattle.command_text.proofs.ValueLaws.{IsOfTest, test_refusal, Earns, Means, unfit_fails, unfit_test, means, meant}

-- The line is refused for this.
abbrev pub LineEarns : List ℕ → Refusal → Type 0
LineEarns line refusals.LineTooLong = MAX_LINE < length line
LineEarns line refusals.NotJson = IsNoJson line
LineEarns line why = Spells line (λ value. Earns value why)

-- The line is to be read so.
abbrev pub LineMeans : List ℕ → Result Command Refusal → Type 0
LineMeans line (Ok command) = Spells line (λ value. Asks value command)
LineMeans line (Err why) = LineEarns line why

chosen_value : (b : Bool) (reading : Option Data) (value : Data) → cond b reading None ≡ Some value → (b ≡ true) × (reading ≡ Some value)
chosen_value true reading value e = (refl, e)
chosen_value false reading value e = cc e

line_value-some : (line : List ℕ) (value : Data) → line_value line ≡ Some value → IsTextOf line value
line_value-some line value e =
    let p = chosen_value (is_utf8 line) (read line) value e in
    record { utf8 = IsUtf8-from_is_utf8 line p.0; reads = p.1 }

no_value : (line : List ℕ) → line_value line ≡ None → HasNoReading line
no_value line none value text = cc (sym none ∙ line_value-utf8 line text.utf8 ∙ text.reads)

-- the line is JSON text of a value, or of none
read_or_none : (line : List ℕ) (found : Option Data) → line_value line ≡ found → HasNoReading line ⊎ ((value : Data) × IsTextOf line value)
read_or_none line None is = inl (no_value line is)
read_or_none line (Some value) is = inr (value, line_value-some line value is)

-- ---- what a line is read as

line_command-value : (line : List ℕ) (value : Data) → Fits line → IsTextOf line value → line_command line ≡ value_command value
line_command-value line value fits text =
    line_command-fits line fits ∙ text_command-value line (Some value) (line_value-utf8 line text.utf8 ∙ text.reads)

none_found : (line : List ℕ) (found : Option Data) → line_value line ≡ found → HasNoReading line → found ≡ None
none_found line None is none = refl
none_found line (Some value) is none = absurd (none value (line_value-some line value is))

line_command-none : (line : List ℕ) → Fits line → HasNoReading line → line_command line ≡ Err refusals.NotJson
line_command-none line fits none =
    line_command-fits line fits ∙ text_command-value line None (none_found line (line_value line) refl none)

of_value : (line : List ℕ) (value : Data) (reading : Result Command Refusal) → Fits line → IsTextOf line value → Means value reading → LineMeans line reading
of_value line value (Ok command) fits text asks = record { fits = fits; value = value; reads = text; asks = asks }
of_value line value (Err refusals.LineTooLong) fits text unfit = absurd (unfit_test value refusals.LineTooLong unfit)
of_value line value (Err refusals.NotJson) fits text unfit = absurd (unfit_test value refusals.NotJson unfit)
of_value line value (Err why) fits text earns = record { fits = fits; value = value; reads = text; asks = earns }

line_means : (line : List ℕ) → LineMeans line (line_command line)
line_means line =
    elim (long_or_fits line) [
      | inl long ↦ subst (LineMeans line) (sym (line_command-long line long)) long
      | inr fits ↦
          elim (read_or_none line (line_value line) refl) [
            | inl none ↦ subst (LineMeans line) (sym (line_command-none line fits none)) (record { fits = fits; no_reading = none })
            | inr p ↦ subst (LineMeans line) (sym (line_command-value line p.0 fits p.1)) (of_value line p.0 (value_command p.0) fits p.1 (means p.0))
          ]
    ]

spelled : (line : List ℕ) (reading : Result Command Refusal) → Spells line (λ value. Means value reading) → line_command line ≡ reading
spelled line reading s = line_command-value line s.value s.fits s.reads ∙ meant s.value reading s.asks

line_meant : (line : List ℕ) (reading : Result Command Refusal) → LineMeans line reading → line_command line ≡ reading
line_meant line (Ok command) s = spelled line (Ok command) s
line_meant line (Err refusals.LineTooLong) long = line_command-long line long
line_meant line (Err refusals.NotJson) none = line_command-none line none.fits none.no_reading
line_meant line (Err why) s = spelled line (Err why) s

-- ---- the laws

pub line_law : (line : List ℕ) (reading : Result Command Refusal) → (line_command line ≡ reading) ↔ LineMeans line reading
line_law line reading = (λ e. subst (LineMeans line) e (line_means line), line_meant line reading)

-- the refusal of a test
unfit_earns : (line : List ℕ) (why : Refusal) → IsOfTest why → LineEarns line why ≡ SpellsUnfit line why
unfit_earns line refusals.LineTooLong is = absurd is
unfit_earns line refusals.NotJson is = absurd is
unfit_earns line (refusals.NotARequest field) is = absurd is
unfit_earns line why is = refl

pub unfit_law : (line : List ℕ) (test : Test) → (line_command line ≡ Err (refusal_of test)) ↔ SpellsUnfit line (refusal_of test)
unfit_law line test =
    subst (λ (Spelt : Type 0). (line_command line ≡ Err (refusal_of test)) ↔ Spelt) (unfit_earns line (refusal_of test) (test_refusal test)) (line_law line (Err (refusal_of test)))

test_of_reading : (test : Test) → IsOfReading (refusal_of test)
test_of_reading (is_sha text) = refl
test_of_reading test = refl

of_reading : (line : List ℕ) (why : Refusal) → LineEarns line why → IsOfReading why
of_reading line refusals.LineTooLong earns = refl
of_reading line refusals.NotJson earns = refl
of_reading line (refusals.NotARequest field) earns = refl
of_reading line why s =
    let p = unfit_fails s.value why s.asks in
    subst IsOfReading (sym p.1) (test_of_reading p.0)

pub no_other_law : (line : List ℕ) (why : Refusal) → line_command line ≡ Err why → IsOfReading why
no_other_law line why e = of_reading line why ((line_law line (Err why)).0 e)

-- Which value a line reads as, and what it asks then.
use Rattle.std.proofs.Common.{◌≡◌, ℕ, ◌<◌, ◌⊎◌, inl, inr, nat_lt, length, Bool, true, false, List, Option, None, Ok, Err, refl, sym, ap, cond, ◌∙◌}
use Rattle.std.specs.Str.{IsUtf8, is_utf8}
use Rattle.std.proofs.lemmas.Bool.{cases_Bool, ltb-true, ltb-false, lt-ltb, le-ltb}
use Rattle.std.proofs.lemmas.Str.{IsUtf8-from_is_utf8, is_utf8-from_IsUtf8}
use Rattle.serde_json.specs.Data.{Data}
use Rattle.serde_json.specs.Read.{read}
use Rattle.media_base.specs.declared.command.Command.{Command}
use Rattle.media_base.specs.declared.refusal.Refusal.TheVariants as refusals
use Rattle.command_text.specs.Reading.{line_value, read_command, text_command, line_command}
use Rattle.command_text.specs.Spelling.{Fits}
use Rattle.command_text.specs.declared.request.TheConstants.{MAX_LINE}

pub line_value-utf8 : (line : List ℕ) → IsUtf8 line → line_value line ≡ read line
line_value-utf8 line utf8 =
    ap (λ (b : Bool). cond b (read line) None) (is_utf8-from_IsUtf8 line utf8)

chosen_none : (b : Bool) (reading : Option Data) → (b ≡ true → reading ≡ None) → cond b reading None ≡ None
chosen_none true reading none = none refl
chosen_none false reading none = refl

pub line_value-none : (line : List ℕ) → (IsUtf8 line → read line ≡ None) → line_value line ≡ None
line_value-none line none =
    chosen_none (is_utf8 line) (read line) (λ e. none (IsUtf8-from_is_utf8 line e))

-- what the line asks, once its value is known
pub text_command-value : (line : List ℕ) (found : Option Data) → line_value line ≡ found → text_command line ≡ read_command found
unfolding text_command
text_command-value line found e = ap read_command e

-- ---- too long, or not

pub line_command-long : (line : List ℕ) → MAX_LINE < length line → line_command line ≡ Err refusals.LineTooLong
unfolding line_command
line_command-long line long = ap (λ (test : Bool). cond test (Err refusals.LineTooLong) (text_command line)) (lt-ltb _ _ long)

pub line_command-fits : (line : List ℕ) → Fits line → line_command line ≡ text_command line
unfolding line_command
line_command-fits line fits = ap (λ (test : Bool). cond test (Err refusals.LineTooLong) (text_command line)) (le-ltb _ _ fits)

pub long_or_fits : (line : List ℕ) → (MAX_LINE < length line) ⊎ Fits line
long_or_fits line =
    elim (cases_Bool (nat_lt MAX_LINE (length line))) [ inl long ↦ inl (ltb-true _ _ long) | inr fits ↦ inr (ltb-false _ _ fits) ]

-- a line that is read as a command fits
pub line_command-ok : (line : List ℕ) (command : Command) → line_command line ≡ Ok command → Fits line × (text_command line ≡ Ok command)
line_command-ok line command e =
    elim (long_or_fits line) [
      | inl long ↦ cc (sym (line_command-long line long) ∙ e)
      | inr fits ↦ (fits, sym (line_command-fits line fits) ∙ e)
    ]

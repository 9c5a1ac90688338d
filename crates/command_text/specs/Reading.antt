-- What a request line asks, with the tests in their order: the first that fails names the refusal.
use Rattle.std.specs.Prelude.{ℕ, List, [], ◌∷◌, length, nat_lt, if◌then◌else◌, Option, Some, None, Result, Err}
use Rattle.std.specs.Str.{is_utf8, bytes_eq}
use Rattle.serde_json.specs.Data.{Data}
use Rattle.serde_json.specs.Read.{read}
use Rattle.media_base.specs.declared.command.Command.{Command}
use Rattle.media_base.specs.declared.refusal.FieldName.TheVariants as fields
use Rattle.media_base.specs.declared.refusal.Refusal.{Refusal}
use Rattle.media_base.specs.declared.refusal.Refusal.TheVariants as refusals
use Rattle.command_text.specs.declared.request.TheConstants.{MAX_LINE}
use Rattle.command_text.specs.Commands.{CommandName, all_names, request_of}
use Rattle.command_text.specs.Forms.{◌>>=◌, a_text, said_at, read_request}

-- the JSON value that the line reads as
abbrev pub line_value : List ℕ → Option Data
line_value line = if is_utf8 line then read line else None

-- what the value asks of the first of these commands that has this name
abbrev pub first_at : List CommandName → List ℕ → Data → Result Command Refusal
first_at [] text value = Err (refusals.NotARequest fields.Do)
first_at (name ∷ names) text value = if bytes_eq text (request_of name).text then read_request (request_of name) value else first_at names text value

-- what the value asks of the command that `do` names
unfoldable pub value_command : Data → Result Command Refusal
value_command value = do
  text ← said_at fields.Do a_text value
  first_at all_names text value

abbrev pub read_command : Option Data → Result Command Refusal
read_command None = Err refusals.NotJson
read_command (Some value) = value_command value

-- the command that the line's text asks, or why it is refused
unfoldable pub text_command : List ℕ → Result Command Refusal
text_command line = read_command (line_value line)

-- the command that the line asks, or why it is refused; that it is too long is told first
unfoldable pub line_command : List ℕ → Result Command Refusal
line_command line =
    if nat_lt MAX_LINE (length line) then Err refusals.LineTooLong
    else text_command line

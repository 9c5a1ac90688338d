-- How a text is cleaned as its characters come: what each still puts behind what is cleaned so far.
use Rattle.std.specs.Prelude.{ℕ, Bool, true, false, nat_lt, if◌then◌else◌, List, [], ◌∷◌, ◌++◌, length, encode_utf8_all}
use Rattle.std.specs.Char.{is_whitespace, to_ascii_lowercase}

-- What these characters put behind a text that has begun or not, and from which they are set apart by white
-- space or not.
abbrev pub following : Bool → Bool → List ℕ → List ℕ
following begun apart [] = []
following begun apart (c ∷ more) =
    if is_whitespace c then following begun begun more
    else (if apart then 32 ∷ to_ascii_lowercase c ∷ following true false more else to_ascii_lowercase c ∷ following true false more)

-- the bytes of a text that is cleaned to these so far, with what the characters put behind it
abbrev pub with_following : List ℕ → Bool → List ℕ → List ℕ
with_following bytes apart more = bytes ++ encode_utf8_all (following (nat_lt 0 (length bytes)) apart more)

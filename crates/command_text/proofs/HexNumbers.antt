-- The number that 16 hexadecimal digits write is that of the eight bytes that they spell.
use Rattle.std.proofs.Common.{◌≡◌, ℕ, ◌+◌, ◌*◌, List, [], ◌∷◌, length, Option, Some, None, unwrap_or, Result, Ok, Err, refl, sym, ap, ◌∙◌, arith}
use Rattle.std.specs.Prelude.{fold}
use Rattle.std.specs.Int.{w64, from_be_bytes}
use Rattle.hex.specs.declared.error.FromHexError.{FromHexError}
use Rattle.hex.specs.Hex.{◌>>=◌, hex_digit_value, digit_or_error, decode_pairs, decode_of}
use Rattle.hex.proofs.HexLemmas.{decode_of-ok, decode_of-even}
use Rattle.command_text.specs.Spelling.{digits_number}

-- what a pair of digits and the rest decode to
pair_ok : (a b i : ℕ) (high low : Option ℕ) (rest : Result (List ℕ) FromHexError) (bytes : List ℕ)
    → ((digit_or_error a i high >>= (λ h. digit_or_error b (i + 1) low >>= (λ l. Ok (h * 16 + l)))) >>= (λ byte. rest >>= (λ bytes. Ok (byte ∷ bytes)))) ≡ Ok bytes
    → (others : List ℕ) × (rest ≡ Ok others) × ((unwrap_or high 0 * 16 + unwrap_or low 0) ∷ others ≡ bytes)
pair_ok a b i (Some h) (Some l) (Ok others) bytes e = (others, refl, cc e)
pair_ok a b i (Some h) (Some l) (Err error) bytes e = cc e
pair_ok a b i (Some h) None rest bytes e = cc e
pair_ok a b i None low rest bytes e = cc e

abbrev with_digit : ℕ → ℕ → ℕ
with_digit number digit = number * 16 + unwrap_or (hex_digit_value digit) 0

abbrev with_byte : ℕ → ℕ → ℕ
with_byte number byte = number * 256 + byte

pair_number : (n h l : ℕ) → (n * 16 + h) * 16 + l ≡ n * 256 + (h * 16 + l)
pair_number n h l = omega arith

-- behind a number, digits write what the bytes of their pairs write
pairs_number : (i : ℕ) (text bytes : List ℕ) (n : ℕ) → decode_pairs i text ≡ Ok bytes → fold with_digit n text ≡ fold with_byte n bytes
unfolding decode_pairs
pairs_number i [] bytes n e =
    let none : [] ≡ bytes = cc e in
    ap (fold with_byte n) none
pairs_number i (a ∷ []) bytes n e = cc e
pairs_number i (a ∷ b ∷ rest) bytes n e =
    let p = pair_ok a b i (hex_digit_value a) (hex_digit_value b) (decode_pairs (i + 2) rest) bytes e in
    let h = unwrap_or (hex_digit_value a) 0 in
    let l = unwrap_or (hex_digit_value b) 0 in
    ap (λ (number : ℕ). fold with_digit number rest) (pair_number n h l)
    ∙ pairs_number (i + 2) rest p.0 (n * 256 + (h * 16 + l)) p.1
    ∙ ap (fold with_byte n) p.2

eight_bytes : (bytes : List ℕ) → length bytes ≡ 8 → fold with_byte 0 bytes ≡ from_be_bytes w64 bytes
eight_bytes (a ∷ b ∷ c ∷ d ∷ e ∷ f ∷ g ∷ h ∷ []) eight = omega arith
eight_bytes bytes eight = absurd (omega arith)

pub digits_number-bytes : (text bytes : List ℕ) → length text ≡ 16 → decode_of text ≡ Ok bytes → digits_number text ≡ from_be_bytes w64 bytes
digits_number-bytes text bytes sixteen spell =
    let ok = decode_of-ok text bytes spell in
    let eight : length bytes ≡ 8 = omega (arith, ok.2, sixteen) in
    pairs_number 0 text bytes 0 (sym (decode_of-even text ok.0) ∙ spell) ∙ eight_bytes bytes eight

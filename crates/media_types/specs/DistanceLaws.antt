-- The number of differing bits is a metric: it is 0 for equal words alone, symmetric, and no way round is shorter.
use Rattle.std.proofs.Common.{◌≡◌, ◌∙◌, ℕ, zero, suc, ◌+◌, ◌/◌, ◌%◌, ◌≤◌, sym, ap, arith}
use Rattle.std.specs.Prelude.{bit_xor, count_ones}
use Rattle.std.proofs.lemmas.Nat.{zero_from_ones, ones_le_self, xor_shr, xor_comm}
use lib.Bits.{xor_self, xor_zero_r, xor_assoc, xor_add_and}
use lib.Count.{ones_step}
use Rattle.media_types.specs.declared.hash.Hash64.{Hash64}
use Rattle.media_types.specs.Distance.{distance_of}

same_from_none : (a b : ℕ) → bit_xor a b ≡ 0 → a ≡ b
same_from_none a b e =
    sym (xor_zero_r a) ∙ ap (bit_xor a) (sym (xor_self b)) ∙ sym (xor_assoc a b b) ∙ ap (λ n. bit_xor n b) e

pub zero_from_distance : (x y : Hash64) → distance_of x y ≡ 0 → x ≡ y
zero_from_distance x y e =
    let word : ℕ → Hash64 = λ n. record { 0 = n } in
    ap word (same_from_none x.0 y.0 (zero_from_ones (bit_xor x.0 y.0) e))

pub distance_of-self : (x : Hash64) → distance_of x x ≡ 0
distance_of-self x = rw (xor_self x.0) (omega (arith, ones_le_self 0))

pub distance_of-sym : (x y : Hash64) → distance_of x y ≡ distance_of y x
distance_of-sym x y = ap count_ones (xor_comm x.0 y.0)

-- the bits that differ are set in one word or the other
ones-xor : (d a b : ℕ) → a ≤ d → count_ones (bit_xor a b) ≤ count_ones a + count_ones b
ones-xor zero a b h =
    let none : a ≡ 0 = omega arith in
    rw none (omega arith)
ones-xor (suc d) a b h =
    let rest : bit_xor a b / 2 ≡ bit_xor (a / 2) (b / 2) = xor_shr a b 1 in
    let step : count_ones (bit_xor (a / 2) (b / 2)) ≤ count_ones (a / 2) + count_ones (b / 2) = ones-xor d (a / 2) (b / 2) (omega arith) in
    let whole : count_ones (bit_xor a b) ≡ bit_xor a b % 2 + count_ones (bit_xor (a / 2) (b / 2)) = ones_step (bit_xor a b) ∙ ap (λ n. bit_xor a b % 2 + count_ones n) rest in
    omega (arith, whole, step, ones_step a, ones_step b, xor_add_and a b)

pub triangle : (x y z : Hash64) → distance_of x z ≤ distance_of x y + distance_of y z
triangle x y z =
    let through : bit_xor (bit_xor x.0 y.0) (bit_xor y.0 z.0) ≡ bit_xor x.0 z.0 =
    xor_assoc x.0 y.0 (bit_xor y.0 z.0) ∙ ap (bit_xor x.0) (sym (xor_assoc y.0 y.0 z.0) ∙ ap (λ n. bit_xor n z.0) (xor_self y.0)) in
    rw (← through) (ones-xor (bit_xor x.0 y.0) (bit_xor x.0 y.0) (bit_xor y.0 z.0) (omega arith))

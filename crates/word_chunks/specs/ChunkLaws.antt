-- The distance of two words is the sum of the distances of their chunks. So words within a distance differ in
-- at most a quarter of it in some chunk.
use Rattle.std.proofs.Common.{◌≡◌, ◌∙◌, ℕ, ◌+◌, ◌*◌, ◌/◌, ◌%◌, ◌^◌, ◌<◌, ◌≤◌, ◌⊎◌, inl, inr, ap, arith, bit_xor, count_ones}
use Rattle.std.proofs.lemmas.Nat.{xor_shr, xor_mod, xor_lt, ones_cat, shr-shr}
use Rattle.std.proofs.lemmas.Bool.{cases_lt}
use Rattle.media_types.specs.declared.hash.Hash64.{Hash64}
use Rattle.media_types.specs.Distance.{distance_of}
use Rattle.word_chunks.specs.Chunks.{chunk_distance}

-- the bits of a number, the low 16 and the others
low-high : (n : ℕ) → count_ones n ≡ count_ones (n / 65536) + count_ones (n % 65536)
low-high n =
    let parts : n ≡ n / 65536 * 65536 + n % 65536 = omega arith in
    ap count_ones parts ∙ ones_cat 16 (n / 65536) (n % 65536) (omega arith)

-- the chunk of the differing bits
xor-chunk : (a b s : ℕ) → bit_xor a b / 2 ^ s % 65536 ≡ bit_xor (a / 2 ^ s % 65536) (b / 2 ^ s % 65536)
xor-chunk a b s = ap (λ n. n % 65536) (xor_shr a b s) ∙ xor_mod (a / 2 ^ s) (b / 2 ^ s) 16

four-parts : (n : ℕ) → count_ones n
    ≡ count_ones (n / 2 ^ 0 % 65536) + count_ones (n / 2 ^ 16 % 65536) + count_ones (n / 2 ^ 32 % 65536) + count_ones (n / 2 ^ 48)
four-parts n =
    let s1 : n / 65536 / 65536 ≡ n / 2 ^ 32 = shr-shr n 16 16 in
    let s2 : n / 2 ^ 32 / 65536 ≡ n / 2 ^ 48 = shr-shr n 32 16 in
    let s0 : n / 2 ^ 0 ≡ n = omega arith in
    let e0 : count_ones (n / 2 ^ 0 % 65536) ≡ count_ones (n % 65536) = ap (λ k. count_ones (k % 65536)) s0 in
    let e1 : count_ones (n / 65536 / 65536) ≡ count_ones (n / 2 ^ 32) = ap count_ones s1 in
    let e2 : count_ones (n / 2 ^ 32 / 65536) ≡ count_ones (n / 2 ^ 48) = ap count_ones s2 in
    omega (arith, low-high n, low-high (n / 65536), low-high (n / 2 ^ 32), e0, e1, e2)

parts : (x y : Hash64) → distance_of x y
    ≡ chunk_distance 0 x y + chunk_distance 1 x y + chunk_distance 2 x y + count_ones (bit_xor x.0 y.0 / 2 ^ 48)
parts x y =
    let c0 : count_ones (bit_xor x.0 y.0 / 2 ^ 0 % 65536) ≡ chunk_distance 0 x y = ap count_ones (xor-chunk x.0 y.0 0) in
    let c1 : count_ones (bit_xor x.0 y.0 / 2 ^ 16 % 65536) ≡ chunk_distance 1 x y = ap count_ones (xor-chunk x.0 y.0 16) in
    let c2 : count_ones (bit_xor x.0 y.0 / 2 ^ 32 % 65536) ≡ chunk_distance 2 x y = ap count_ones (xor-chunk x.0 y.0 32) in
    omega (arith, four-parts (bit_xor x.0 y.0), c0, c1, c2)

top-chunk : (x y : Hash64) → count_ones (bit_xor x.0 y.0 / 2 ^ 48 % 65536) ≡ chunk_distance 3 x y
top-chunk x y = ap count_ones (xor-chunk x.0 y.0 48)

pub distance-chunks : (x y : Hash64) → x.0 < 2 ^ 64 → y.0 < 2 ^ 64
    → distance_of x y ≡ chunk_distance 0 x y + chunk_distance 1 x y + chunk_distance 2 x y + chunk_distance 3 x y
distance-chunks x y hx hy =
    let small : bit_xor x.0 y.0 < 2 ^ 64 = xor_lt 64 x.0 y.0 hx hy in
    let same : bit_xor x.0 y.0 / 2 ^ 48 % 65536 ≡ bit_xor x.0 y.0 / 2 ^ 48 = omega (arith, small) in
    let e : count_ones (bit_xor x.0 y.0 / 2 ^ 48 % 65536) ≡ count_ones (bit_xor x.0 y.0 / 2 ^ 48) = ap count_ones same in
    omega (arith, parts x y, top-chunk x y, e)

-- with no bound on the words
pub chunks-le : (x y : Hash64)
    → chunk_distance 0 x y + chunk_distance 1 x y + chunk_distance 2 x y + chunk_distance 3 x y ≤ distance_of x y
chunks-le x y = omega (arith, parts x y, top-chunk x y, low-high (bit_xor x.0 y.0 / 2 ^ 48))

quarter-of : (a b c e d : ℕ) → a + b + c + e ≤ d → (a ≤ d / 4) ⊎ ((b ≤ d / 4) ⊎ ((c ≤ d / 4) ⊎ (e ≤ d / 4)))
quarter-of a b c e d h =
    elim (cases_lt (d / 4) a) [
      | inr le ↦ inl (omega (arith, le))
      | inl la ↦ elim (cases_lt (d / 4) b) [
        | inr le ↦ inr (inl (omega (arith, le)))
        | inl lb ↦ elim (cases_lt (d / 4) c) [
          | inr le ↦ inr (inr (inl (omega (arith, le))))
          | inl lc ↦ inr (inr (inr (omega (arith, h, la, lb, lc))))
        ]
      ]
    ]

pub quarter : (x y : Hash64) (d : ℕ) → distance_of x y ≤ d → (chunk_distance 0 x y ≤ d / 4)
    ⊎ ((chunk_distance 1 x y ≤ d / 4) ⊎ ((chunk_distance 2 x y ≤ d / 4) ⊎ (chunk_distance 3 x y ≤ d / 4)))
quarter x y d h =
    quarter-of (chunk_distance 0 x y) (chunk_distance 1 x y) (chunk_distance 2 x y) (chunk_distance 3 x y) d (omega (arith, h, chunks-le x y))

-- What is told of rows on the way of a search.
use Rattle.std.specs.Prelude.{ℕ, zero, suc, ◌/◌, nat_le, nat_lt, Bool, true, ◌&&◌, if◌then◌else◌, List, [], ◌∷◌, flat_map, bit_xor}
use Rattle.media_types.specs.Distance.{distance_of}
use Rattle.media_types.specs.declared.hash.Hash64.{Hash64}
use Rattle.media_types.specs.declared.numbers.HashNo.{HashNo}
use Rattle.word_chunks.specs.Chunks.{chunk, chunk_distance}

-- no chunk before this one is within so many bits
abbrev pub is_first : ℕ → ℕ → Hash64 → Hash64 → Bool
is_first zero bits query word = true
is_first (suc c) bits query word = nat_lt bits (chunk_distance c query word) && is_first c bits query word

-- a word is told in the first of its chunks that is within a quarter of the distance
abbrev pub is_told : ℕ → Hash64 → ℕ → Hash64 → Bool
is_told c query within word = nat_le (distance_of query word) within && is_first c (within / 4) query word

-- a row's number with the distance of its word, where it is told
abbrev pub told : ℕ → Hash64 → ℕ → (ℕ × ℕ) × Hash64 → List (HashNo × ℕ)
told c query within row =
    if is_told c query within row.1 then (record { 0 = row.0.1 }, distance_of query row.1) ∷ [] else []

-- what the rows of all values near the query's tell; `rows` has those of each value
abbrev pub told_in : ℕ → Hash64 → ℕ → (ℕ → List ((ℕ × ℕ) × Hash64)) → List ℕ → List (HashNo × ℕ)
told_in c query within rows masks =
    flat_map (λ mask. flat_map (told c query within) (rows (bit_xor (chunk c query) mask))) masks

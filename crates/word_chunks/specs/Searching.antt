-- What a search finds.
use Rattle.std.specs.Prelude.{ℕ, nat_le, List, map, filter, length}
use Rattle.std.specs.List.{range_with_len}
use Rattle.media_types.specs.Distance.{distance_of}
use Rattle.media_types.specs.declared.hash.Hash64.{Hash64}
use Rattle.media_types.specs.declared.numbers.HashNo.{HashNo}
use Rattle.word_chunks.specs.Chunks.{word_at}

-- a number with the distance of its word from a query
abbrev pub hit : List Hash64 → Hash64 → ℕ → HashNo × ℕ
hit ws query k = (record { 0 = k }, distance_of query (word_at ws k))

-- all words within a distance, ascending by number
abbrev pub filter_of : List Hash64 → Hash64 → ℕ → List (HashNo × ℕ)
filter_of ws query within =
    filter (λ h. nat_le h.1 within) (map (hit ws query) (range_with_len 0 (length ws)))

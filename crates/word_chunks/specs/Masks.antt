-- The values of a chunk that lie within some bits of another one: that one, with few bits turned.
use Rattle.std.specs.Prelude.{ℕ, nat_le, count_ones, List, filter}
use Rattle.std.specs.List.{range_with_len}

-- the numbers below `end` of at most so many bits, ascending: 1, 17, 137, 697 and 2517 of 16 bits at 0 to 4 bits
unfoldable pub masks_below : ℕ → ℕ → List ℕ
masks_below bits end = filter (λ mask. nat_le (count_ones mask) bits) (range_with_len 0 end)

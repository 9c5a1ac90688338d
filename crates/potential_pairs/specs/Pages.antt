-- Pages of potential pairs.
use Rattle.std.specs.Prelude.{ℕ, Bool, true, ◌==◌, ◌&&◌, ◌||◌, nat_le, nat_lt, List, take, filter, Option, Some, None}
use Rattle.media_types.specs.declared.numbers.FileNo.{FileNo}
use Rattle.potential_pairs.specs.Potential.{Row}

-- the pair comes after the place in the order of the names; a place may be of any two numbers, or the front
abbrev pub is_behind : Option (FileNo × FileNo) → ℕ × ℕ → Bool
is_behind None name = true
is_behind (Some place) name =
    nat_lt place.0.0 name.0 || (place.0.0 == name.0 && nat_lt place.1.0 name.1)

-- the pairs within a distance
abbrev pub within : ℕ → List Row → List Row
within m pairs = filter (λ row. nat_le row.1 m) pairs

-- the first n pairs within a distance after the place
unfoldable pub page_of : Option (FileNo × FileNo) → ℕ → ℕ → List Row → List Row
page_of after n m pairs = take n (filter (λ row. is_behind after row.0) (within m pairs))

-- how a reply names a pair
abbrev pub named : Row → FileNo × FileNo × ℕ
named row = (record { 0 = row.0.0 }, record { 0 = row.0.1 }, row.1)

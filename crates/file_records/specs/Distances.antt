-- The distance of two files: the least over their hashes.
use Rattle.std.specs.Prelude.{ℕ, List, map, Option, Some, None}
use Rattle.std.specs.List.{flat_map}
use Rattle.media_types.specs.Least.{least, lesser}
use Rattle.media_types.specs.Distance.{distance_of}
use Rattle.media_types.specs.declared.hash.Hash64.{Hash64}

-- the lesser of two distances, of which either may be none
abbrev pub nearer : Option ℕ → Option ℕ → Option ℕ
nearer None b = b
nearer (Some a) b = lesser a b

-- of each hash of the one file to each of the other
abbrev pub distances : List Hash64 → List Hash64 → List ℕ
distances xs ys = flat_map (λ x. map (distance_of x) ys) xs

-- the least of these; none where one of the files has no hash
abbrev pub least_distance : List Hash64 → List Hash64 → Option ℕ
least_distance xs ys = least (distances xs ys)

use Rattle.std.proofs.Common.{◌≡◌, take}
use Rattle.file_records.specs.Distances.{least_distance}
use Rattle.file_records.proofs.files.Files.file_distance.Given as goal

abbrev pub invariant-loop-hash : goal.invariant-loop-hash
invariant-loop-hash g l = l.least ≡ least_distance (take l.hash-index l.hash-items) l.g.hashes

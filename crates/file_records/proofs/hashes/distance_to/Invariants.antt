use Rattle.std.proofs.Common.{◌≡◌, map, take}
use Rattle.media_types.specs.Distance.{distance_of}
use Rattle.media_types.specs.Least.{least}
use Rattle.file_records.proofs.hashes.distance_to.Given as goal

abbrev pub invariant-loop-other : goal.invariant-loop-other
invariant-loop-other l = l.least ≡ least (map (distance_of l.hash) (take l.other-index l.others))

use Rattle.std.proofs.Common.{Some, ap, ◌∙◌}
use Rattle.media_types.specs.Distance.{distance_of}
use Rattle.file_records.specs.Distances.{nearer}
use Rattle.file_records.proofs.Distances.{least_more}
use Rattle.file_records.proofs.hashes.distance_to.Goals as goal

pub loop-other-preserved : goal.loop-other-preserved
loop-other-preserved c =
    least_more (distance_of c.args.hash) c.args.others.now c.loop-other.other-index (record { 0 = 0 }) c.loop-other.least c.nearer-least.result
    c.loop-other-test.true c.loop-other.invariant (c.nearer-least.ensures ∙ ap (λ n. nearer c.loop-other.least (Some n)) c.distance.ensures.value)

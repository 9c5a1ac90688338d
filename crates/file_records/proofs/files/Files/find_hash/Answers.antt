use Rattle.std.proofs.Common.{length, ap, arith}
use Rattle.file_records.specs.WordLaws.{few_words}
use Rattle.file_records.proofs.files.Files.find_hash.Goals as goal

pub overflow_cast-result : goal.overflow_cast-result
overflow_cast-result c =
    let sound = c.self.invariant.0 in
    let held = c.self.invariant.1 in
    let few = few_words c.self.inside.rows.items sound.few_hashes in
    omega (arith, few, sound.few, ap length held.in_order, c.in_ok-at.ensures.within)

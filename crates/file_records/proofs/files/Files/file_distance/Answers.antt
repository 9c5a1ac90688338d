use Rattle.std.proofs.Common.{◌≡◌, ◌∙◌, map, take_all, get_or, ap, sym}
use Rattle.std.proofs.lemmas.Option.{same_Some}
use Rattle.media_types.specs.Distance.{distance_of}
use Rattle.media_types.specs.declared.hash.Hash64.{Hash64}
use Rattle.file_records.specs.declared.file_row.FileRow.{FileRow}
use Rattle.media_types.specs.Least.{least}
use Rattle.file_records.specs.Distances.{least_distance, nearer}
use Rattle.file_records.proofs.Distances.{distance_more}
use Rattle.file_records.proofs.files.Files.file_distance.Goals as goal

pub loop-hash-preserved : goal.loop-hash-preserved
loop-hash-preserved g c =
    let hashes = c.as_slice-hash-items.result.now in
    let i = c.loop-hash.hash-index in
    let zero : Hash64 = record { 0 = 0 } in
    let nearest = c.distance_to.ensures ∙ ap (λ others. least (map (distance_of (get_or hashes i zero)) others)) c.as_slice.ensures.list in
    distance_more hashes c.row-g.result.now.hashes i zero c.loop-hash.least c.nearer-least.result c.loop-hash-test.true c.loop-hash.invariant
    (c.nearer-least.ensures ∙ ap (nearer c.loop-hash.least) nearest)

pub returns-clause-distance : goal.returns-clause-distance
returns-clause-distance g c = λ a b a_there b_there.
    let f_is : c.row-f.result.now ≡ a = same_Some _ a (sym c.row-f.ensures.row ∙ a_there) in
    let g_is : c.row-g.result.now ≡ b = same_Some _ b (sym c.row-g.ensures.row ∙ b_there) in
    let all = take_all c.loop-hash.hash-index c.as_slice-hash-items.result.now c.loop-hash-test.false ∙ c.as_slice-hash-items.ensures.list in
    c.loop-hash.invariant ∙ ap (λ hashes. least_distance hashes c.row-g.result.now.hashes) (all ∙ ap (λ (row : FileRow). row.hashes) f_is)
    ∙ ap (λ (row : FileRow). least_distance a.hashes row.hashes) g_is

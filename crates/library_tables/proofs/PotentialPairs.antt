-- The pairs that are kept are the potential pairs of the records.
use Rattle.std.proofs.Common.{◌≡◌, ◌<◌, ℕ, List, length, refl, sym, ◌∙◌}
use Rattle.std.proofs.lemmas.Bool.{ltb-true, lt-ltb}
use Rattle.media_types.specs.declared.decision.Decision.{Decision}
use Rattle.file_records.specs.NearLaws.{below}
use Rattle.relation_groups.specs.Clusters.{IsClosed}
use Rattle.relation_groups.specs.ClosedLaws.{closed-split}
use Rattle.relation_groups.specs.Reading.{is_below, relations_in}
use Rattle.relation_groups.specs.Relations.{AreAmong, relations}
use Rattle.potential_pairs.specs.PotentialLaws.{pairs-are_potential}
use Rattle.potential_pairs.specs.Potential.{AreBelow}
use Rattle.library_machine.specs.Asking.{potential_pairs}
use Rattle.library_tables.specs.Tables.{TablesView, AreInStep, records_of}
use Rattle.library_tables.proofs.Refolding.{standing_among}

-- decisions of the first files part these from all others
first_closed : (n : ℕ) (ds : List Decision) → AreAmong n ds → IsClosed (is_below n) ds
first_closed n ds among k d lt =
    let both = among k d lt in
    lt-ltb _ _ both.0 ∙ sym (lt-ltb _ _ both.1)

-- so the king of one of them is one of them
king_below : (n : ℕ) (ds : List Decision) → AreAmong n ds → (f : ℕ) → f < n → (relations ds).king f < n
king_below n ds among f lt =
    ltb-true _ _ ((closed-split (is_below n) ds (first_closed n ds among)).kings f ∙ lt-ltb _ _ lt)

pub pairs_are : (t : TablesView) → AreInStep t → t.pairs.rows.pairs ≡ potential_pairs (records_of t)
pairs_are t step =
    let n = length t.files.rows in
    let among = standing_among n t.book.rows step.fits.among in
    let low : AreBelow n t.pairs.rows.near = rw step.paired.near (below t.files.rows) in
    pairs-are_potential n (relations_in t.groups) t.pairs.rows step.paired.of low (λ f lt. rw step.related (king_below n _ among f lt))
    ∙ rw (step.related, step.paired.gone, step.paired.near) refl

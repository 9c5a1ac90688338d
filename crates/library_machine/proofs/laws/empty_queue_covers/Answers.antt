use Rattle.library_machine.proofs.Covering.{pairs_cover, pages_cover, counts_cover}
use Rattle.library_machine.proofs.laws.empty_queue_covers.Goals as goal

pub returns-clause-within : goal.returns-clause-within
returns-clause-within c = pairs_cover

pub returns-clause-pages : goal.returns-clause-pages
returns-clause-pages c = pages_cover

pub returns-clause-counts : goal.returns-clause-counts
returns-clause-counts c = counts_cover

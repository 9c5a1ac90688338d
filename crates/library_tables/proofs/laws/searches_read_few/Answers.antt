use Rattle.std.proofs.Common.{◌≡◌, ◌≤◌, ℕ, Bool, true, false, List, refl, arith}
use Rattle.std.specs.Prelude.{IsSomeAnd}
use Rattle.media_base.specs.declared.command.Command.TheVariants as commands
use Rattle.media_base.specs.declared.command.Job.TheVariants as jobs
use Rattle.vp_tree.specs.declared.node.NodeView.{NodeView}
use Rattle.library_machine.specs.Jobs.{worked_out}
use Rattle.library_machine.specs.Records.{Records}
use Rattle.library_machine.specs.Searches.{is_empty, next_search}
use Rattle.library_tables.specs.Counting.{most_reads, search_reads}
use Rattle.library_tables.proofs.laws.searches_read_few.Goals as goal

-- whether or not a file waits
job_reads_few : (r : Records) (tree : List NodeView) (n : ℕ) (none : Bool) → is_empty (next_search r n).files ≡ none →
    IsSomeAnd (most_reads r tree (commands.Run (jobs.Search n))) (λ most. most ≤ search_reads r tree (next_search r n))
unfolding worked_out
job_reads_few r tree n true is = rw is (omega arith)
job_reads_few r tree n false is = rw is (omega arith)

pub returns : goal.returns
returns c = λ r tree. (λ s. omega arith, λ n. job_reads_few r tree n _ refl)

-- What jobs work out, and what upkeep tells.
use Rattle.std.specs.Prelude.{if◌then◌else◌, []}
use Rattle.media_types.specs.declared.searching.Searching.{Searching}
use Rattle.media_base.specs.declared.change.Change.{Change}
use Rattle.media_base.specs.declared.change.Change.TheVariants as changes
use Rattle.media_base.specs.declared.command.Job.{Job}
use Rattle.media_base.specs.declared.command.Job.TheVariants as jobs
use Rattle.media_base.specs.declared.command.Upkeep.{Upkeep}
use Rattle.media_base.specs.declared.command.Upkeep.TheVariants as upkeeps
use Rattle.media_base.specs.declared.reply.Answer.{Answer}
use Rattle.media_base.specs.declared.reply.Answer.TheVariants as answers
use Rattle.library_machine.specs.Records.{Records}
use Rattle.library_machine.specs.Searches.{counts, is_empty, next_search}

-- What a job comes to: it tells that there is nothing to do, or makes a change.
pub data Deed : Type 0 where
  tells : Answer → Deed
  makes : Change → Deed

-- a search of these files; there is none where there are no files
abbrev pub search_deed : Records → Searching → Deed
search_deed r s = if is_empty s.files then tells (counts [] r) else makes (changes.Searched s)

unfoldable pub worked_out : Records → Job → Deed
worked_out r (jobs.Search n) = search_deed r (next_search r n)

unfoldable pub tended : Upkeep → Answer
tended upkeeps.Rebalance = answers.Rebalanced

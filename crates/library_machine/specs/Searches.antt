-- What searches do to the records, and what they tell.
use Rattle.std.specs.Prelude.{ℕ, Bool, ◌==◌, List, length, take, nat_le}
use Rattle.media_types.specs.declared.limits.TheConstants.{MAX_NEAR}
use Rattle.media_types.specs.declared.numbers.FileNo.{FileNo}
use Rattle.media_types.specs.declared.searching.Searching.{Searching}
use Rattle.media_base.specs.declared.reply.Answer.{Answer}
use Rattle.media_base.specs.declared.reply.Answer.TheVariants as answers
use Rattle.file_records.specs.Near.{near_pairs}
use Rattle.file_records.specs.Searching.{queue_of, rising, searched}
use Rattle.library_machine.specs.Records.{Records}

-- the files that are to be searched, ascending
abbrev pub search_queue : Records → List FileNo
search_queue r = queue_of r.distance r.files

-- the next files of the queue, at most so many, within the library's distance
abbrev pub next_search : Records → ℕ → Searching
next_search r n = record { files = take n (search_queue r); distance = r.distance }

-- the files whose searched distance a search raises, each once, ascending
abbrev pub risen : Records → Searching → List FileNo
risen r s = rising s.distance s.files r.files

-- the records, once the named files are searched
abbrev pub after_search : Records → Searching → Records
after_search r s = record r { files = searched s.distance s.files r.files }

abbrev pub is_empty : List FileNo → Bool
is_empty files = length files == 0

-- there are no more near pairs than a library holds
abbrev pub has_room_for_near : Records → Bool
has_room_for_near r = nat_le (length (near_pairs r.files)) MAX_NEAR

-- what a search tells: how many files were searched further than before, and how many wait after it
abbrev pub counts : List FileNo → Records → Answer
counts files after = answers.Searched (record { searched = length files; left = length (search_queue after) })

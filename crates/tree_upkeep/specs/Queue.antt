-- The queue of the files that are to be searched, and what is seen beside it.
use Rattle.std.specs.Prelude.{ℕ, ◌<◌, Bool, nat_lt, if◌then◌else◌, List, [], ◌∷◌, ◌++◌, filter}
use Rattle.std.specs.List.{AllPairs}
use Rattle.media_types.specs.declared.numbers.FileNo.{FileNo}

-- what a contract sees of the upkeep: the queue, and how many more files it has room for; the numbers of the
-- marked nodes, ascending, and how many more marks it has room for
pub record Work : Type 0 where
  pub queue : List FileNo
  pub spare : ℕ
  pub marks : List ℕ
  pub mark_spare : ℕ

-- each file is before the greater ones, and no file stands twice
abbrev pub Ascend : List FileNo → Type 0
Ascend files = AllPairs (λ a b. a.0 < b.0) files

-- the files with smaller numbers than this one
abbrev pub below : FileNo → List FileNo → List FileNo
below file files = filter (λ other. nat_lt other.0 file.0) files

-- the files with greater numbers than this one
abbrev pub above : FileNo → List FileNo → List FileNo
above file files = filter (λ other. nat_lt file.0 other.0) files

-- the queue, in which the file now stands in its place, or does not stand, and nothing else is changed
abbrev pub noted : FileNo → Bool → List FileNo → List FileNo
noted file queued queue = below file queue ++ ((if queued then file ∷ [] else []) ++ above file queue)

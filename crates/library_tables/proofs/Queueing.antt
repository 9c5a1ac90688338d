-- The queue of the files that are to be searched, where a file is noted in it.
use Rattle.std.proofs.Common.{◌≡◌, Bool, not, ◌==◌, List, [], ◌∷◌, ap, sym}
use Rattle.std.specs.List.{filter}
use Rattle.std.proofs.Math.Bool.{or-false}
use Rattle.media_types.specs.declared.numbers.FileNo.{FileNo}
use Rattle.file_records.specs.Searching.{is_named}

-- a file is another one, or isn't among those that are one file
pub other_file : (file : FileNo) (queue : List FileNo) →
    filter (λ other. not (file.0 == other.0)) queue ≡ filter (λ f. not (is_named (file ∷ []) f.0)) queue
other_file file queue = ap (λ (test : FileNo → Bool). filter test queue) (λ j other. not (sym (or-false (file.0 == other.0)) j))

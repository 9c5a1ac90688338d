use Rattle.std.proofs.Common.{◌≡◌, [], map, slice_index_or, take}
use Rattle.media_types.specs.declared.numbers.TagNo.{TagNo}
use Rattle.library_tables.proofs.tables.Tables.texts_of.Given as goal

-- the texts of the tags before
abbrev pub invariant-loop-tag : goal.invariant-loop-tag
invariant-loop-tag l = l.texts ≡ map (λ (tag : TagNo). slice_index_or l.self.tags.texts tag.0 []) (take l.tag-index l.tags)

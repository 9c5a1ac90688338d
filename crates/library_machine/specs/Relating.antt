-- Sibling pairs and parent pairs among the records, the ideal tags that they make, and what tags imply.
use Rattle.std.specs.Prelude.{◌≡◌, ℕ, Bool, true, false, List, [], ◌∷◌, ◌++◌, length, map, bytes_eq, slice_index_or, Option, Some, option_and_then}
use Rattle.std.specs.Option.{option_map_or}
use Rattle.media_types.specs.declared.numbers.ServiceNo.{ServiceNo}
use Rattle.media_types.specs.declared.numbers.TagNo.{TagNo}
use Rattle.media_base.specs.declared.change.TagPair.{TagPair}
use Rattle.media_base.specs.declared.reply.IdealTag.{IdealTag}
use Rattle.media_base.specs.declared.refusal.Unmet.{Unmet}
use Rattle.media_base.specs.declared.refusal.Unmet.TheVariants as whys
use Rattle.media_base.specs.declared.reply.PairTags.{PairTags}
use Rattle.sibling_chains.specs.Following.{good_of}
use Rattle.sibling_chains.specs.Recorded.{ideal, pairs_of, removed_at, standing_place}
use Rattle.sibling_chains.specs.declared.relation_row.RelationRow.{RelationRow}
use Rattle.tag_store.specs.Numbering.{number_behind, number_of, with_tag}
use Rattle.parent_closure.specs.Ancestors.{ancestors}
use Rattle.parent_closure.specs.Kept.{first_place, is_pair, stands_in}
use Rattle.library_machine.specs.Records.{Records, all_relations, order_at, too_many}
use Rattle.library_machine.specs.Tagging.{numbered}

-- the text of the tag of this number; no tag has the empty text
abbrev pub text_of : Records → ℕ → List ℕ
text_of r tag = slice_index_or r.tags tag []

-- ---- pairs

-- the number of the good tag to which a standing pair of the service leads this text, where one does
abbrev pub good_number : Records → ServiceNo → List ℕ → Option ℕ
good_number r service text = option_and_then (λ bad. good_of (pairs_of r.siblings service) bad) (number_of text r.tags)

-- the text of that tag
abbrev pub good_text : Records → ServiceNo → List ℕ → List ℕ
good_text r service text = option_map_or (text_of r) (good_number r service text) []

-- this pair stands
abbrev pub has_pair : Records → TagPair → Bool
has_pair r pair = option_map_or (λ good. bytes_eq (text_of r good) pair.second) (good_number r pair.service pair.first) false

-- the tags once both texts are numbered, the first before the second
abbrev pub with_both : List (List ℕ) → List ℕ → List ℕ → List (List ℕ)
with_both tags first second = with_tag (with_tag tags first) second

-- the numbers that the two texts have, or would have
abbrev pub pair_tags : Records → TagPair → PairTags
pair_tags r pair = record { first = numbered r pair.first; second = record { 0 = number_behind pair.first pair.second r.tags } }

abbrev pub row_of : Records → TagPair → RelationRow
row_of r pair = record { service = pair.service; first = (pair_tags r pair).first; second = (pair_tags r pair).second; standing = true }

abbrev pub with_sibling : Records → TagPair → Records
with_sibling r pair = record r { tags = with_both r.tags pair.first pair.second; siblings = r.siblings ++ row_of r pair ∷ [] }

-- the number of the row that stands for the bad tag
abbrev pub place_of : Records → TagPair → ℕ
place_of r pair = standing_place pair.service.0 (numbered r pair.first).0 r.siblings

-- the row stays in its place, and stands no more
abbrev pub without_sibling : Records → TagPair → Records
without_sibling r pair = record r { siblings = removed_at (place_of r pair) r.siblings }

-- ---- parent pairs

-- a parent pair of these two tags stands in the service
abbrev pub has_parent : Records → TagPair → Bool
has_parent r pair =
    option_map_or (λ child. option_map_or (λ parent. stands_in r.parents pair.service.0 child parent) (number_of pair.second r.tags) false) (number_of pair.first r.tags) false

-- the same in plain words
abbrev pub IsParent : Records → TagPair → Type 0
IsParent r pair =
    (child : ℕ) × (parent : ℕ) × (number_of pair.first r.tags ≡ Some child) × (number_of pair.second r.tags ≡ Some parent)
    × (stands_in r.parents pair.service.0 child parent ≡ true)

abbrev pub with_parent : Records → TagPair → Records
with_parent r pair = record r { tags = with_both r.tags pair.first pair.second; parents = r.parents ++ row_of r pair ∷ [] }

-- the number of the first row that stands for the pair
abbrev pub parent_place : Records → TagPair → ℕ
parent_place r pair = first_place (is_pair pair.service.0 (numbered r pair.first).0 (numbered r pair.second).0) r.parents

-- the row stays in its place, and stands no more
abbrev pub without_parent : Records → TagPair → Records
without_parent r pair = record r { parents = removed_at (parent_place r pair) r.parents }

-- ---- ideal tags, and what tags imply

-- the services whose sibling pairs a service takes, in order
abbrev pub sibling_order : Records → ServiceNo → List ServiceNo
sibling_order r service = order_at r service.0 (λ orders. orders.siblings)

-- the number of the ideal tag of a tag
abbrev pub ideal_number : Records → ServiceNo → TagNo → ℕ
ideal_number r service tag = ideal (sibling_order r service) r.siblings tag.0

-- the numbers of the tag's ancestors, ascending
abbrev pub ancestor_numbers : Records → ServiceNo → TagNo → List ℕ
ancestor_numbers r service tag = ancestors (length r.tags) (all_relations r service.0) tag.0

-- the ideal tag of a text that is numbered, and the tag's ancestors
abbrev pub ideal_told : Records → ServiceNo → List ℕ → IdealTag
ideal_told r service text = record {
  ideal = text_of r (ideal_number r service (numbered r text));
  ancestors = map (text_of r) (ancestor_numbers r service (numbered r text));
}

-- Where a tag implies too many, this is told. Where none does nothing is told, and no command comes to that.
abbrev pub too_many_told : Records → Unmet
too_many_told r =
    option_map_or (λ found. whys.TooManyImplied (record { 0 = found.0 }) (text_of r found.1)) (too_many r) (whys.TooManyImplied (record { 0 = 0 }) [])

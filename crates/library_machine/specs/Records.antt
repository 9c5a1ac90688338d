-- What a library records, and nothing else. All that it tells is computed from these lists.
use Rattle.std.specs.Prelude.{◌≡◌, ◌<◌, ◌≤◌, ℕ, Bool, List, [], length, map, Option, Some, None, All, IsSome, Contains, slice_get}
use Rattle.std.specs.Option.{option_map_or}
use Rattle.media_types.specs.declared.hash.Sha.{Sha}
use Rattle.media_types.specs.declared.limits.TheConstants.{FIRST_DISTANCE, MAX_DECISIONS, MAX_FILES, MAX_NEAR}
use Rattle.media_types.specs.declared.numbers.DecisionNo.{DecisionNo}
use Rattle.media_types.specs.declared.numbers.FileNo.{FileNo}
use Rattle.media_types.specs.declared.numbers.ServiceNo.{ServiceNo}
use Rattle.file_records.specs.declared.file_row.FileRow.{FileRow}
use Rattle.file_records.specs.Lookup.{AreDistinct, IsUnknown}
use Rattle.file_records.specs.Near.{near_pairs}
use Rattle.decision_book.specs.declared.decision_row.DecisionRow.{DecisionRow}
use Rattle.decision_book.specs.Standing.{decision_of}
use Rattle.relation_groups.specs.Laws.{AreOfTwo}
use Rattle.relation_groups.specs.Relations.{AreAmong}
use Rattle.tag_types.specs.declared.limits.TheConstants.{MAX_MAPPINGS, MAX_RELATIONS, MAX_SERVICES, MAX_TAGS}
use Rattle.tag_types.specs.declared.orders.Orders.{Orders}
use Rattle.tag_store.specs.Mapped as mapped
use Rattle.tag_store.specs.Numbering.{AreDistinctTexts}
use Rattle.tag_store.specs.Serving.{first_services}
use Rattle.sibling_chains.specs.declared.relation_row.RelationRow.{RelationRow}
use Rattle.parent_closure.specs.Ancestors.{Relations}
use Rattle.parent_closure.specs.Limits.{over_limit}

pub record Records : Type 0 where
  -- in order of import
  pub files : List FileRow
  -- in order of recording
  pub decisions : List DecisionRow
  -- within which files are searched for their duplicates
  pub distance : ℕ
  -- cleaned texts, in order of first use
  pub tags : List (List ℕ)
  -- for each service whose pairs it takes
  pub services : List Orders
  -- by service, tag and file
  pub mappings : List mapped.Row
  -- pairs of a bad tag and its good one, in order of recording, removed ones among them
  pub siblings : List RelationRow
  -- pairs of a child and its parent likewise
  pub parents : List RelationRow

abbrev pub no_records : Records
no_records = record {
  files = [];
  decisions = [];
  distance = FIRST_DISTANCE;
  tags = [];
  services = first_services;
  mappings = [];
  siblings = [];
  parents = [];
}

-- one of the two lists of a service's orders; that of a service that isn't there is empty
abbrev pub order_at : Records → ℕ → (Orders → List ServiceNo) → List ServiceNo
order_at r s list_of = option_map_or list_of (slice_get r.services s) []

-- what is known of the tags of a service
abbrev pub all_relations : Records → ℕ → Relations
all_relations r s = record {
  sibling_order = order_at r s (λ orders. orders.siblings);
  parent_order = order_at r s (λ orders. orders.parents);
  siblings = r.siblings;
  parents = r.parents;
}

-- the lowest service in which a tag implies too many, and the lowest such tag
abbrev pub too_many : Records → Option (ℕ × ℕ)
too_many r = over_limit (length r.services) (length r.tags) (all_relations r)

-- the service, the tag and the file are among so many
pub record AreThere (services tags files s t f : ℕ) : Type 0 where
  pub service : s < services
  pub tag : t < tags
  pub file : f < files

-- What tags, services and mappings of so many files are: within the limits, with no two tags of one text, and each
-- mapping is of a service, a tag and a file that are there.
pub record TagsFit (files : ℕ) (tags : List (List ℕ)) (services : List Orders) (mappings : List mapped.Row) : Type 0 where
  pub few_tags : length tags ≤ MAX_TAGS
  pub few_services : length services ≤ MAX_SERVICES
  pub few_mappings : length mappings ≤ MAX_MAPPINGS
  pub distinct : AreDistinctTexts tags
  pub ascend : mapped.Ascend mappings
  pub there : (s t f : ℕ) → IsSome (mapped.state_of mappings s t f) → AreThere (length services) (length tags) files s t f

-- the service and the two tags of a row are among so many
abbrev pub IsPairThere : ℕ → ℕ → RelationRow → Type 0
IsPairThere services tags row = (row.service.0 < services) × (row.first.0 < tags) × (row.second.0 < tags)

-- What rows of pairs are: within the limit, each of a service and two tags that are there.
pub record PairsFit (services tags : ℕ) (rows : List RelationRow) : Type 0 where
  pub few : length rows ≤ MAX_RELATIONS
  pub there : All (IsPairThere services tags) rows

-- What records of every session are: within the limits, with no two files of one SHA-256, and each
-- decision is of two different files that are there. No tag implies too many.
pub record Fits (r : Records) : Type 0 where
  pub few_files : length r.files ≤ MAX_FILES
  pub few_decisions : length r.decisions ≤ MAX_DECISIONS
  pub few_near : length (near_pairs r.files) ≤ MAX_NEAR
  pub distinct : AreDistinct r.files
  pub among : AreAmong (length r.files) (map decision_of r.decisions)
  pub of_two : AreOfTwo (map decision_of r.decisions)
  pub tags : TagsFit (length r.files) r.tags r.services r.mappings
  pub siblings : PairsFit (length r.services) (length r.tags) r.siblings
  pub parents : PairsFit (length r.services) (length r.tags) r.parents
  pub few_implied : too_many r ≡ None

-- a file with this number is recorded
abbrev pub IsThere : Records → FileNo → Type 0
IsThere r file = file.0 < length r.files

-- no file has this SHA-256
abbrev pub IsNew : Records → Sha → Type 0
IsNew r sha = IsUnknown sha r.files

-- a service with this number is there
abbrev pub IsService : Records → ServiceNo → Type 0
IsService r service = service.0 < length r.services

-- a tag of this text is numbered
abbrev pub IsTagged : Records → List ℕ → Type 0
IsTagged r text = Contains r.tags text

-- the decision of this number is recorded, and is undone or not
abbrev pub IsRecorded : Records → DecisionNo → Bool → Type 0
IsRecorded r n undone = (row : DecisionRow) × (slice_get r.decisions n.0 ≡ Some row) × (row.undone ≡ undone)

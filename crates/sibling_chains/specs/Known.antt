-- What contracts see of the siblings of all services, and what is read from it.
use Rattle.std.specs.Prelude.{◌≡◌, ◌<◌, ◌&&◌, ℕ, Bool, true, nat_lt, nat_le, List, [], ◌∷◌, ◌++◌, map, length, filter, All, Option, Some, None, find, slice_index_or}
use Rattle.std.specs.List.{list_all, range_with_len}
use Rattle.media_types.specs.declared.numbers.ServiceNo.{ServiceNo}
use Rattle.media_types.specs.declared.numbers.TagNo.{TagNo}
use Rattle.sibling_chains.specs.declared.relation_row.RelationRow.{RelationRow}
use Rattle.sibling_chains.specs.Clustered.{Clustered, is_of_two, label_of}
use Rattle.sibling_chains.specs.Clusters.{rows_within}
use Rattle.sibling_chains.specs.Ends.{at, end_beside}
use Rattle.sibling_chains.specs.Following.{Pair}
use Rattle.sibling_chains.specs.Recorded.{ideal}

-- the rows of sibling pairs in order of recording, removed ones among them; the other pairs that tie tags
-- together; by service the services whose pairs it takes, in order; how many tags there are; how many more
-- tags and services there is room for, and how many more rows and ties
pub record Known : Type 0 where
  pub rows : List RelationRow
  pub ties : List Pair
  pub orders : List (List ServiceNo)
  pub tags : ℕ
  pub tag_room : ℕ
  pub service_room : ℕ
  pub row_room : ℕ

-- the same but for the room
pub record IsSame (new old : Known) : Type 0 where
  pub rows : new.rows ≡ old.rows
  pub ties : new.ties ≡ old.ties
  pub orders : new.orders ≡ old.orders
  pub tags : new.tags ≡ old.tags

-- the services whose pairs a service takes, in order
abbrev pub order_of : Known → ℕ → List ServiceNo
order_of v s = slice_index_or v.orders s []

-- the ideal tag of a tag, in a service
abbrev pub ideal_in : Known → ℕ → ℕ → ℕ
ideal_in v s t = ideal (order_of v s) v.rows t

-- the label of a tag's cluster
abbrev pub label_in : Known → ℕ → ℕ
label_in v t = label_of v.rows v.ties t

-- a tag is of the cluster of either of two
abbrev pub is_in_two : Known → ℕ → ℕ → ℕ → Bool
is_in_two v a b = is_of_two v.rows v.ties a b

-- the tags of two clusters, ascending, and their rows, removed ones among them
abbrev pub tags_of_two : Known → ℕ → ℕ → List ℕ
tags_of_two v a b = filter (is_in_two v a b) (range_with_len 0 v.tags)

abbrev pub rows_of_two : Known → ℕ → ℕ → List RelationRow
rows_of_two v a b = rows_within (is_in_two v a b) v.rows

-- the first n tags, ascending
abbrev pub tags_below : ℕ → List TagNo
tags_below n = map (λ k. record { 0 = k }) (range_with_len 0 n)

-- the tag comes after the place, which is a number or the front
abbrev pub is_behind : Option TagNo → ℕ → Bool
is_behind None t = true
is_behind (Some after) t = nat_lt after.0 t

-- the least of the first n tags that comes after the place and passes the test
abbrev pub next_tag_of : ℕ → Option TagNo → (ℕ → Bool) → Option TagNo
next_tag_of n after test = find (λ t. is_behind after t.0 && test t.0) (tags_below n)

-- what contracts within the crate see of the rows and ties
abbrev pub clustered_of : Known → Clustered
clustered_of v = record { rows = v.rows; ties = v.ties; tags = v.tags; tag_room = v.tag_room; row_room = v.row_room }

-- each list of ends has at least so many
abbrev pub are_long : ℕ → List (List ℕ) → Bool
are_long n ends = list_all (λ list. nat_le n (length list)) ends

-- the ends of each service are the ideal tags
pub record AreFolded (rows : List RelationRow) (orders : List (List ServiceNo)) (ends : List (List ℕ)) : Type 0 where
  pub one_each : length ends ≡ length orders
  pub ideal : (s t : ℕ) → at (slice_index_or ends s []) t ≡ ideal (slice_index_or orders s []) rows t
  pub services : All (λ row. row.service.0 < length orders) rows

-- the rows with one more, where there is one
abbrev pub rows_with : Option RelationRow → List RelationRow → List RelationRow
rows_with None rows = rows
rows_with (Some row) rows = rows ++ row ∷ []

-- these lists have the ends of the tags, by these rows, for each of the first n services
pub record AreEndsFor (tags : List ℕ) (rows : List RelationRow) (orders : List (List ServiceNo)) (ends : List (List ℕ)) (n : ℕ) : Type 0 where
  pub count : length ends ≡ n
  pub long : (s : ℕ) → s < n → length (slice_index_or ends s []) ≡ length tags
  pub ideal : (s t : ℕ) → s < n → end_beside tags (slice_index_or ends s []) t ≡ ideal (slice_index_or orders s []) rows t

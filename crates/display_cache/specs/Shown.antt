-- What files show, from what they are mapped to and the lists in force; and how many files show a tag.
use Rattle.std.specs.Prelude.{ℕ, Bool, true, false, not, ◌==◌, ◌&&◌, ◌||◌, List, filter, map, Option, Some, None}
use Rattle.std.specs.List.{list_any, range_with_len}
use Rattle.media_types.specs.declared.numbers.TagNo.{TagNo}
use Rattle.tag_types.specs.declared.map_state.MapState.{MapState}
use Rattle.tag_types.specs.declared.map_state.MapState.TheVariants.{Current, Pending, Deleted}
use Rattle.display_cache.specs.Sums.{how_many, some_below, sum_below}

-- how many tags and files there are; the state of a service's tag on a file; the list in force for a service's tag at
-- a file; and which files are live
pub record World : Type 0 where
  pub tags : ℕ
  pub files : ℕ
  pub state : ℕ → ℕ → ℕ → Option MapState
  pub force : ℕ → ℕ → ℕ → List ℕ
  pub live : ℕ → Bool

abbrev pub is_current : Option MapState → Bool
is_current (Some Current) = true
is_current (Some Pending) = false
is_current (Some Deleted) = false
is_current None = false

abbrev pub is_pending : Option MapState → Bool
is_pending (Some Pending) = true
is_pending (Some Current) = false
is_pending (Some Deleted) = false
is_pending None = false

-- the tag stands in the list
abbrev pub has : List ℕ → ℕ → Bool
has list x = list_any (λ y. x == y) list

-- in service s file f shows x as current: the list in force of a current mapping has it
abbrev pub shows_current : World → ℕ → ℕ → ℕ → Bool
shows_current W s f x = some_below W.tags (λ t. is_current (W.state s t f) && has (W.force s t f) x)

-- as pending: that of a pending mapping has it, and none of a current one
abbrev pub shows_pending : World → ℕ → ℕ → ℕ → Bool
shows_pending W s f x =
    some_below W.tags (λ t. is_pending (W.state s t f) && has (W.force s t f) x) && not (shows_current W s f x)

abbrev pub numbered : ℕ → TagNo
numbered x = record { 0 = x }

-- the tags that a file shows, ascending
unfoldable pub current_tags : World → ℕ → ℕ → List ℕ
current_tags W s f = filter (shows_current W s f) (range_with_len 0 W.tags)

unfoldable pub pending_tags : World → ℕ → ℕ → List ℕ
pending_tags W s f = filter (shows_pending W s f) (range_with_len 0 W.tags)

-- all tags that a file shows, ascending, each with whether it is shown as pending
unfoldable pub shown_tags : World → ℕ → ℕ → List (TagNo × Bool)
shown_tags W s f = map (λ x. (numbered x, shows_pending W s f x)) (filter (λ x. shows_current W s f x || shows_pending W s f x) (range_with_len 0 W.tags))

-- the number of live files that show a tag
unfoldable pub count_current : World → ℕ → ℕ → ℕ
count_current W s x = how_many W.files (λ f. W.live f && shows_current W s f x)

unfoldable pub count_pending : World → ℕ → ℕ → ℕ
count_pending W s x = how_many W.files (λ f. W.live f && shows_pending W s f x)

-- of so many services, the number of services, files and tags of which the file shows the tag, deleted files too
unfoldable pub triples : ℕ → World → ℕ
triples services W =
    sum_below services (λ s. sum_below W.files (λ f. how_many W.tags (λ x. shows_current W s f x || shows_pending W s f x)))

-- What is kept of shown tags, and what a plan makes of it.
use Rattle.std.specs.Prelude.{◌≡◌, ◌<◌, ◌≤◌, ◌*◌, ◌++◌, ℕ, Bool, if◌then◌else◌, List, [], length, replicate, All, Option, Some, None, is_some, unwrap_or}
use Rattle.std.specs.BTreeSet.{insert_key}
use Rattle.std.specs.Ordering.{nat_cmp}
use Rattle.spare_tables.specs.Keys.{value_of, without}
use Rattle.spare_tables.specs.Order.{pair_cmp, triple_cmp}
use Rattle.tag_types.specs.declared.limits.TheConstants.{MAX_SERVICES}
use Rattle.tag_store.specs.Mapped.{Row}
use Rattle.display_cache.specs.Cache.{Cache, Keeps, Support, nothing}
use Rattle.display_cache.specs.Changing.{AreDistinct}
use Rattle.display_cache.specs.Drafting.{DraftView, with_values}
use Rattle.display_cache.specs.Recorded.{TagRecords, applied, world_of}

-- supports by service, file and tag; counts by service and tag; how many triples are shown; the applied lists; and
-- the deleted files
pub record DisplayView : Type 0 where
  pub supports : List ((ℕ × ℕ × ℕ) × Support)
  pub counts : List ((ℕ × ℕ) × Support)
  pub rows : ℕ
  pub lists : List (List ℕ)
  pub gone : List ℕ

-- what is displayed, and for how many more supports and counts, lists, and deleted files there is room
pub record KeptDisplay : Type 0 where
  pub shown : DisplayView
  pub spare : ℕ
  pub spare_lists : ℕ
  pub spare_gone : ℕ

abbrev pub cache_of : DisplayView → Cache
cache_of v = record {
  supports = λ s f x. unwrap_or (value_of triple_cmp v.supports (s, f, x)) nothing;
  current = λ s x. (unwrap_or (value_of pair_cmp v.counts (s, x)) nothing).current;
  pending = λ s x. (unwrap_or (value_of pair_cmp v.counts (s, x)) nothing).pending;
  rows = v.rows;
}

-- the records of so many tags and files with these mappings, as they are displayed
abbrev pub records_in : ℕ → ℕ → List Row → DisplayView → TagRecords
records_in n m mappings v = record { tags = n; files = m; mappings = mappings; lists = v.lists; switch = None; gone = v.gone }

-- It displays these mappings of so many tags and files: each tag has its lists, of tags that are there, and the
-- cache is that of the world.
pub record IsOf (n m : ℕ) (mappings : List Row) (v : DisplayView) : Type 0 where
  pub tags : length v.lists ≡ MAX_SERVICES * n
  pub distinct : (s t : ℕ) → t < n → AreDistinct (applied v.lists s t)
  pub there : (s t : ℕ) → t < n → All (λ x. x < n) (applied v.lists s t)
  pub kept : Keeps MAX_SERVICES (world_of (records_in n m mappings v)) (cache_of v)

-- what a contract sees of a plan: the new supports, counts and number of triples; whether there is one tag more; and
-- whether a file is live from now on
pub record PlanView : Type 0 where
  pub cache : DraftView
  pub new_tag : Bool
  pub live : Option (ℕ × Bool)

-- the deleted files once a file is live again, or deleted
abbrev pub with_mark : Option (ℕ × Bool) → List ℕ → List ℕ
with_mark None gone = gone
with_mark (Some mark) gone = if mark.1 then without nat_cmp gone mark.0 else insert_key nat_cmp gone mark.0

-- no list was applied to a new tag in any service
abbrev pub with_tag : Bool → List (List ℕ) → List (List ℕ)
with_tag new lists = if new then lists ++ replicate MAX_SERVICES [] else lists

-- there is room for the plan
pub record HasRoom (plan : PlanView) (kept : KeptDisplay) : Type 0 where
  pub supports : length plan.cache.supports ≤ kept.spare
  pub counts : length plan.cache.counts ≤ kept.spare
  pub lists : (if plan.new_tag then MAX_SERVICES else 0) ≤ kept.spare_lists
  pub gone : (if is_some plan.live then 1 else 0) ≤ kept.spare_gone

-- what is displayed once a plan is carried out
unfoldable pub after : PlanView → DisplayView → DisplayView
after plan v = record {
  supports = with_values triple_cmp plan.cache.supports v.supports;
  counts = with_values pair_cmp plan.cache.counts v.counts;
  rows = plan.cache.rows;
  lists = with_tag plan.new_tag v.lists;
  gone = with_mark plan.live v.gone;
}

-- The display queue, and a batch of it. What each service's tag implies is handed in.
use Rattle.std.specs.Prelude.{◌≡◌, ◌<◌, ◌≤◌, ℕ, zero, suc, Bool, true, false, not, ◌==◌, ◌&&◌, ◌||◌, ◌-◌, List, [], ◌∷◌, All, filter, map, flat_map, length, Option, Some, None, is_some, slice_set}
use Rattle.std.specs.List.{range_with_len}
use Rattle.tag_types.specs.declared.limits.TheConstants.{MAX_SERVICES}
use Rattle.tag_store.specs.Mapped.{state_of}
use Rattle.display_cache.specs.Cache.{Cache, moved}
use Rattle.display_cache.specs.Changing.{AreDistinct}
use Rattle.display_cache.specs.Recorded.{Switch, TagRecords, applied, is_of, list_place, world_of}
use Rattle.display_cache.specs.Sums.{first_in}

abbrev pub same_list : List ℕ → List ℕ → Bool
same_list [] [] = true
same_list [] (y ∷ ys) = false
same_list (x ∷ xs) [] = false
same_list (x ∷ xs) (y ∷ ys) = x == y && same_list xs ys

abbrev pub is_switching : Option Switch → ℕ → ℕ → Bool
is_switching None s t = false
is_switching (Some w) s t = is_of w s t

-- the applied list isn't what the tag implies, or it is being switched
abbrev pub is_waiting : (ℕ → ℕ → List ℕ) → TagRecords → ℕ → ℕ → Bool
is_waiting implied R s t = not (same_list (applied R.lists s t) (implied s t)) || is_switching R.switch s t

-- the services' tags that wait, by service and then tag
unfoldable pub display_queue : ℕ → (ℕ → ℕ → List ℕ) → TagRecords → List (ℕ × ℕ)
display_queue services implied R =
    flat_map (λ s. map (λ t. (s, t)) (filter (is_waiting implied R s) (range_with_len 0 R.tags))) (range_with_len 0 services)

-- the switch of the first that waits, where there is one
abbrev pub begun : (ℕ → ℕ → List ℕ) → List (ℕ × ℕ) → Option Switch
begun implied [] = None
begun implied (p ∷ queue) = Some (record { service = p.0; tag = p.1; list = implied p.0 p.1; next = 0 })

-- the next file from the next on of which the switch has a row
abbrev pub next_row : TagRecords → Switch → Option ℕ
next_row R w = first_in (λ f. is_some (state_of R.mappings w.service w.tag f)) w.next (R.files - w.next)

abbrev pub passed : Switch → ℕ → Switch
passed w f = record w { next = suc f }

-- the switch once it has passed up to n more rows
abbrev pub pass_on : Option ℕ → Switch → (Switch → Switch) → Switch
pass_on None w rest = w
pass_on (Some f) w rest = rest (passed w f)

abbrev pub after_rows : ℕ → TagRecords → Switch → Switch
after_rows zero R w = w
after_rows (suc n) R w = pass_on (next_row R w) w (after_rows n R)

-- the lists once the switch's own is applied
abbrev pub with_list : Switch → List (List ℕ) → List (List ℕ)
with_list w lists = slice_set lists (list_place w.service w.tag) w.list

-- the switch goes on, or it ends where no row is left
abbrev pub settled : Option ℕ → Switch → TagRecords → TagRecords
settled (Some f) w R = record R { switch = Some w }
settled None w R = record R { lists = with_list w R.lists; switch = None }

abbrev pub batch_of : ℕ → Option Switch → TagRecords → TagRecords
batch_of n None R = R
batch_of n (Some w) R = settled (next_row R (after_rows n R w)) (after_rows n R w) R

abbrev pub begun_if_none : Option Switch → Option Switch → Option Switch
begun_if_none (Some w) next = Some w
begun_if_none None next = next

-- a batch of n rows
unfoldable pub batch : ℕ → (ℕ → ℕ → List ℕ) → ℕ → TagRecords → TagRecords
batch services implied n R = batch_of n (begun_if_none R.switch (begun implied (display_queue services implied R))) R

-- the records while a switch goes on
abbrev pub switching : TagRecords → Switch → TagRecords
switching R w = record R { switch = Some w }

-- no file has a mapping but those that are there
abbrev pub AreOfFiles : TagRecords → Type 0
AreOfFiles R = (s t f : ℕ) → R.files ≤ f → state_of R.mappings s t f ≡ None

-- the lists between which the switch passes are of tags that are there, each once, and there is a place for the new one
pub record AreListed (R : TagRecords) (w : Switch) : Type 0 where
  pub old : AreDistinct (applied R.lists w.service w.tag)
  pub new : AreDistinct w.list
  pub old_there : All (λ x. x < R.tags) (applied R.lists w.service w.tag)
  pub new_there : All (λ x. x < R.tags) w.list
  pub some : 0 < length w.list
  pub service : w.service < MAX_SERVICES
  pub place : list_place w.service w.tag < length R.lists

-- what a batch does to the cache
abbrev pub on_row : {X : Type 0} → Option ℕ → X → (ℕ → X) → X
on_row None here rest = here
on_row (Some f) here rest = rest f

abbrev pub rows_moved : ℕ → TagRecords → Switch → Cache → Cache
rows_moved zero R w c = c
rows_moved (suc n) R w c = on_row (next_row R w) c
    (λ f. rows_moved n R (passed w f) (moved (world_of (switching R w)) (world_of (switching R (passed w f))) w.service w.tag f c))

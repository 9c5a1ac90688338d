-- Small sessions, worked out.
use Rattle.std.proofs.Common.{◌≡◌, ◌==◌, cond, ℕ, List, [], ◌∷◌, None, refl}
use Rattle.tag_types.specs.declared.map_state.MapState.TheVariants.{Current, Pending}
use Rattle.tag_store.specs.Mapped.{Row}
use Rattle.display_cache.specs.Recorded.{TagRecords, world_of}
use Rattle.display_cache.specs.Shown.{count_current, current_tags, pending_tags, triples}
use Rattle.display_cache.specs.Switching.{batch, display_queue}

abbrev on_file : ℕ → ℕ → Row
on_file t f = ((0, t, f), Current)

abbrev pending_on : ℕ → ℕ → Row
pending_on t f = ((0, t, f), Pending)

-- no list was applied to any of so many tags
abbrev none_applied : List (List ℕ) → List (List ℕ)
none_applied rest = [] ∷ [] ∷ [] ∷ [] ∷ [] ∷ [] ∷ [] ∷ [] ∷ rest

abbrev one_applied : List ℕ → List (List ℕ) → List (List ℕ)
one_applied list rest = list ∷ [] ∷ [] ∷ [] ∷ [] ∷ [] ∷ [] ∷ [] ∷ rest

abbrev at_rest : ℕ → ℕ → List Row → List (List ℕ) → TagRecords
at_rest tags files mappings lists = record { tags = tags; files = files; mappings = mappings; lists = lists; switch = None; gone = [] }

-- in service 0 tag 0 implies 1 alone, each other itself
abbrev to_u : ℕ → ℕ → List ℕ
to_u s t = cond (t == 0) (1 ∷ []) (t ∷ [])

-- tags 0 and 1 imply 2 too
abbrev both_to_w : ℕ → ℕ → List ℕ
both_to_w s t = cond (t == 0) (0 ∷ 2 ∷ []) (cond (t == 1) (1 ∷ 2 ∷ []) (t ∷ []))

-- tag 0 mapped to files 0 and 1
abbrev two_files : TagRecords
two_files = at_rest 2 2 (on_file 0 0 ∷ on_file 0 1 ∷ []) (none_applied (none_applied []))

-- the same once a batch of one row was worked, and a second
abbrev once : TagRecords
once = batch 1 to_u 1 two_files

abbrev twice : TagRecords
twice = batch 1 to_u 1 once

-- tags 0 and 1 mapped to file 0, with each its own lists; and tag 0 taken away, with tag 3 asked for
abbrev two_tags : TagRecords
two_tags = at_rest 3 1 (on_file 0 0 ∷ on_file 1 0 ∷ []) (none_applied (none_applied (none_applied [])))

abbrev one_tag : TagRecords
one_tag = at_rest 4 1 (on_file 1 0 ∷ pending_on 3 0 ∷ []) (one_applied (0 ∷ 2 ∷ []) (one_applied (1 ∷ 2 ∷ []) (none_applied (none_applied []))))

abbrev one_deleted : TagRecords
one_deleted = record one_tag { gone = 0 ∷ [] }

pub waits_at_first : display_queue 1 to_u two_files ≡ (0, 0) ∷ []
unfolding display_queue
waits_at_first = refl

-- half of the files show the new tag after one row, and half the old one
pub half_u : count_current (world_of once) 0 1 ≡ 1
unfolding batch display_queue count_current
half_u = refl

pub half_t : count_current (world_of once) 0 0 ≡ 1
unfolding batch display_queue count_current
half_t = refl

pub still_waits : display_queue 1 to_u once ≡ (0, 0) ∷ []
unfolding batch display_queue
still_waits = refl

pub whole_u : count_current (world_of twice) 0 1 ≡ 2
unfolding batch display_queue count_current
whole_u = refl

pub whole_t : count_current (world_of twice) 0 0 ≡ 0
unfolding batch display_queue count_current
whole_t = refl

pub nothing_waits : display_queue 1 to_u twice ≡ []
unfolding batch display_queue
nothing_waits = refl

-- two tags that imply a third
pub two_imply_one : current_tags (world_of (batch 1 both_to_w 8 (batch 1 both_to_w 8 two_tags))) 0 0 ≡ 0 ∷ 1 ∷ 2 ∷ []
unfolding batch display_queue current_tags
two_imply_one = refl

pub once_one_is_unmapped : current_tags (world_of one_tag) 0 0 ≡ 1 ∷ 2 ∷ []
unfolding current_tags
once_one_is_unmapped = refl

pub is_pending : pending_tags (world_of one_tag) 0 0 ≡ 3 ∷ []
unfolding pending_tags
is_pending = refl

pub implied_counts : count_current (world_of one_tag) 0 2 ≡ 1
unfolding count_current
implied_counts = refl

-- a deleted file counts nowhere, and is shown all the same
pub deleted_counts_nowhere : count_current (world_of one_deleted) 0 2 ≡ 0
unfolding count_current
deleted_counts_nowhere = refl

pub deleted_is_shown : triples 1 (world_of one_deleted) ≡ 3
unfolding triples
deleted_is_shown = refl

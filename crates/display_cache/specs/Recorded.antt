-- The applied lists, the switch, and what is recorded of tags on files.
use Rattle.std.specs.Prelude.{ℕ, Bool, not, ◌+◌, ◌*◌, ◌==◌, ◌&&◌, nat_lt, if◌then◌else◌, List, [], ◌∷◌, Option, Some, None, slice_index_or}
use Rattle.std.specs.List.{list_any}
use Rattle.tag_types.specs.declared.limits.TheConstants.{MAX_SERVICES}
use Rattle.tag_store.specs.Mapped.{Row, state_of}
use Rattle.display_cache.specs.Shown.{World}

-- a list, or the tag alone where the list is empty
abbrev pub or_alone : ℕ → List ℕ → List ℕ
or_alone t [] = t ∷ []
or_alone t (x ∷ list) = x ∷ list

-- where the list of a service's tag stands
abbrev pub list_place : ℕ → ℕ → ℕ
list_place s t = MAX_SERVICES * t + s

-- the applied list of a service's tag: the tag alone, where no other was applied
abbrev pub applied : List (List ℕ) → ℕ → ℕ → List ℕ
applied lists s t = if nat_lt s MAX_SERVICES then or_alone t (slice_index_or lists (list_place s t) []) else t ∷ []

-- a service's tag passes to a new list, file by file; files below the next have passed
pub record Switch : Type 0 where
  pub service : ℕ
  pub tag : ℕ
  pub list : List ℕ
  pub next : ℕ

abbrev pub is_of : Switch → ℕ → ℕ → Bool
is_of w s t = w.service == s && w.tag == t

-- the list in force for a service's tag at a file
abbrev pub in_force : List (List ℕ) → Option Switch → ℕ → ℕ → ℕ → List ℕ
in_force lists None s t f = applied lists s t
in_force lists (Some w) s t f = if is_of w s t && nat_lt f w.next then w.list else applied lists s t

-- what is recorded of tags on files
pub record TagRecords : Type 0 where
  pub tags : ℕ
  pub files : ℕ
  pub mappings : List Row
  pub lists : List (List ℕ)
  pub switch : Option Switch
  pub gone : List ℕ

abbrev pub is_live : List ℕ → ℕ → Bool
is_live gone f = not (list_any (λ g. g == f) gone)

abbrev pub world_of : TagRecords → World
world_of R = record {
  tags = R.tags;
  files = R.files;
  state = state_of R.mappings;
  force = in_force R.lists R.switch;
  live = is_live R.gone;
}

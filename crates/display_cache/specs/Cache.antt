-- What is kept of shown tags: how many mappings support each, how many live files show it, how many are shown.
use Rattle.std.specs.Prelude.{◌≡◌, ℕ, Bool, not, ◌==◌, ◌&&◌, ◌||◌, ◌+◌, ◌-◌, nat_lt, if◌then◌else◌, List, [], ◌∷◌, Option, Some, None}
use Rattle.media_types.specs.declared.numbers.TagNo.{TagNo}
use Rattle.tag_types.specs.declared.map_state.MapState.{MapState}
use Rattle.tag_types.specs.declared.map_state.MapState.TheVariants.{Current, Pending, Deleted}
use Rattle.display_cache.specs.Shown.{World, has, numbered}
pub use Rattle.display_cache.specs.declared.support.Support.{Support}
use Rattle.display_cache.specs.Sums.{how_many, one, sum_below}

abbrev pub nothing : Support
nothing = record { current = 0; pending = 0 }

-- what a mapping adds for each tag of its list in force
abbrev pub unit_of : Option MapState → Support
unit_of (Some Current) = record { current = 1; pending = 0 }
unit_of (Some Pending) = record { current = 0; pending = 1 }
unit_of (Some Deleted) = record { current = 0; pending = 0 }
unit_of None = record { current = 0; pending = 0 }

abbrev pub plus : Support → Support → Support
plus u v = record { current = u.current + v.current; pending = u.pending + v.pending }

abbrev pub minus : Support → Support → Support
minus u v = record { current = u.current - v.current; pending = u.pending - v.pending }

-- what tag t gives to x on file f in service s
abbrev pub given : World → ℕ → ℕ → ℕ → ℕ → Support
given W s f x t = if has (W.force s t f) x then unit_of (W.state s t f) else record { current = 0; pending = 0 }

-- how many mappings of f in s support x
abbrev pub support : World → ℕ → ℕ → ℕ → Support
support W s f x = record {
  current = sum_below W.tags (λ t. (given W s f x t).current);
  pending = sum_below W.tags (λ t. (given W s f x t).pending);
}

abbrev pub is_current_by : Support → Bool
is_current_by u = nat_lt 0 u.current

abbrev pub is_pending_by : Support → Bool
is_pending_by u = nat_lt 0 u.pending && not (nat_lt 0 u.current)

abbrev pub is_shown_by : Support → Bool
is_shown_by u = is_current_by u || is_pending_by u

-- the tag with whether it is shown as pending, where it is shown by the support
abbrev pub shown_piece : ℕ → Support → List (TagNo × Bool)
shown_piece x u = if is_shown_by u then (numbered x, is_pending_by u) ∷ [] else []

-- supports by service, file and tag; counts by service and tag; the number of shown triples
pub record Cache : Type 0 where
  pub supports : ℕ → ℕ → ℕ → Support
  pub current : ℕ → ℕ → ℕ
  pub pending : ℕ → ℕ → ℕ
  pub rows : ℕ

-- the counts go with the supports
pub record AreCounted (services tags files : ℕ) (live : ℕ → Bool) (c : Cache) : Type 0 where
  pub current : (s x : ℕ) → c.current s x ≡ how_many files (λ f. live f && is_current_by (c.supports s f x))
  pub pending : (s x : ℕ) → c.pending s x ≡ how_many files (λ f. live f && is_pending_by (c.supports s f x))
  pub rows : c.rows ≡ sum_below services (λ s. sum_below files (λ f. how_many tags (λ x. is_shown_by (c.supports s f x))))

-- a count once one of those that it counts is otherwise
abbrev pub recounted : Bool → Bool → ℕ → ℕ
recounted was now n = n + one now - one was

-- one support is set
abbrev pub with_support : (ℕ → Bool) → ℕ → ℕ → ℕ → Support → Cache → Cache
with_support live s f x new c =
    let old = c.supports s f x in
    record {
      supports = λ a b y. if (a == s && b == f) && y == x then new else c.supports a b y;
      current = λ a y. if a == s && y == x then recounted (live f && is_current_by old) (live f && is_current_by new) (c.current a y) else c.current a y;
      pending = λ a y. if a == s && y == x then recounted (live f && is_pending_by old) (live f && is_pending_by new) (c.pending a y) else c.pending a y;
      rows = recounted (is_shown_by old) (is_shown_by new) c.rows;
    }

-- one unit less, or more, for each tag of a list
abbrev pub taken_from : (ℕ → Bool) → ℕ → ℕ → Support → List ℕ → Cache → Cache
taken_from live s f unit [] c = c
taken_from live s f unit (x ∷ list) c = taken_from live s f unit list (with_support live s f x (minus (c.supports s f x) unit) c)

abbrev pub given_to : (ℕ → Bool) → ℕ → ℕ → Support → List ℕ → Cache → Cache
given_to live s f unit [] c = c
given_to live s f unit (x ∷ list) c = given_to live s f unit list (with_support live s f x (plus (c.supports s f x) unit) c)

-- tag t on file f passes from what it gave to what it gives
abbrev pub moved : World → World → ℕ → ℕ → ℕ → Cache → Cache
moved W V s t f c =
    given_to V.live s f (unit_of (V.state s t f)) (V.force s t f) (taken_from V.live s f (unit_of (W.state s t f)) (W.force s t f) c)

-- a file is live from now on, or isn't
abbrev pub with_live : (ℕ → Bool) → ℕ → Bool → Cache → Cache
with_live live f now c = record {
  supports = c.supports;
  current = λ s x. recounted (live f && is_current_by (c.supports s f x)) (now && is_current_by (c.supports s f x)) (c.current s x);
  pending = λ s x. recounted (live f && is_pending_by (c.supports s f x)) (now && is_pending_by (c.supports s f x)) (c.pending s x);
  rows = c.rows;
}

-- the cache is that of the world
pub record Keeps (services : ℕ) (W : World) (c : Cache) : Type 0 where
  pub current : (s f x : ℕ) → (c.supports s f x).current ≡ (support W s f x).current
  pub pending : (s f x : ℕ) → (c.supports s f x).pending ≡ (support W s f x).pending
  pub counted : AreCounted services W.tags W.files W.live c

-- A draft lies over the tables: where it has a value, this is the value from then on.
use Rattle.std.specs.Prelude.{ℕ, Bool, ◌==◌, ◌&&◌, if◌then◌else◌, List, [], ◌∷◌, Option, Some, None, unwrap_or}
use Rattle.std.specs.BTreeMap.{insert_entry}
use Rattle.std.specs.declared.cmp.Ordering.{Ordering}
use Rattle.spare_tables.specs.Keys.{value_of, without_row}
use Rattle.spare_tables.specs.Order.{pair_cmp, triple_cmp}
use Rattle.display_cache.specs.Cache.{Cache, Support, nothing}

pub record TablesView : Type 0 where
  pub supports : List ((ℕ × ℕ × ℕ) × Support)
  pub counts : List ((ℕ × ℕ) × Support)
  pub spare : ℕ

pub record DraftView : Type 0 where
  pub supports : List ((ℕ × ℕ × ℕ) × Support)
  pub counts : List ((ℕ × ℕ) × Support)
  pub rows : ℕ

abbrev pub overlaid : Option Support → Option Support → Support
overlaid (Some new) old = new
overlaid None old = unwrap_or old nothing

abbrev pub support_after : DraftView → TablesView → ℕ → ℕ → ℕ → Support
support_after draft tables s f x = overlaid (value_of triple_cmp draft.supports (s, f, x)) (value_of triple_cmp tables.supports (s, f, x))

abbrev pub count_after : DraftView → TablesView → ℕ → ℕ → Support
count_after draft tables s x = overlaid (value_of pair_cmp draft.counts (s, x)) (value_of pair_cmp tables.counts (s, x))

-- the cache once a draft is written over the tables
abbrev pub cache_after : DraftView → TablesView → Cache
cache_after draft tables = record {
  supports = support_after draft tables;
  current = λ s x. (count_after draft tables s x).current;
  pending = λ s x. (count_after draft tables s x).pending;
  rows = draft.rows;
}

abbrev pub is_nothing : Support → Bool
is_nothing u = u.current == 0 && u.pending == 0

module _ {K : Type 0} (cmp : K → K → Ordering) where
  -- the rows once the value of a key is set; nothing has no row
  abbrev pub with_value : List (K × Support) → K → Support → List (K × Support)
  with_value rows key u = if is_nothing u then without_row cmp rows key else insert_entry cmp rows key u

  abbrev pub with_values : List (K × Support) → List (K × Support) → List (K × Support)
  with_values [] rows = rows
  with_values (change ∷ changes) rows = with_values changes (with_value rows change.0 change.1)

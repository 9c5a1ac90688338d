-- What a tag implies: its ideal tag, and all that parent pairs lead to from there.
use Rattle.std.specs.Prelude.{ℕ, zero, suc, Bool, false, not, ◌==◌, ◌&&◌, ◌||◌, nat_lt, List, map, filter, length}
use Rattle.std.specs.List.{list_any, range_with_len}
use Rattle.sibling_chains.specs.Following.{Pair}
use Rattle.tag_types.specs.declared.limits.TheConstants.{MAX_IMPLIED}
use Rattle.media_types.specs.declared.numbers.ServiceNo.{ServiceNo}
use Rattle.sibling_chains.specs.declared.relation_row.RelationRow.{RelationRow}
use Rattle.sibling_chains.specs.Recorded.{ideal, pairs_in}

-- a parent pair, child and parent, read between ideal tags
abbrev pub between_ideals : (ℕ → ℕ) → Pair → Pair
between_ideals ideal p = (ideal p.0, ideal p.1)

-- the orders of a service, and the rows: what is known of its tags
pub record Relations : Type 0 where
  pub sibling_order : List ServiceNo
  pub parent_order : List ServiceNo
  pub siblings : List RelationRow
  pub parents : List RelationRow

abbrev pub ideal_of : Relations → ℕ → ℕ
ideal_of R = ideal R.sibling_order R.siblings

-- the standing parent pairs of the service, between ideal tags
abbrev pub steps_of : Relations → List Pair
steps_of R = map (between_ideals (ideal_of R)) (pairs_in R.parent_order R.parents)

-- a chain of one to n pairs leads from a to b
abbrev pub leads : ℕ → List Pair → ℕ → ℕ → Bool
leads zero pairs a b = false
leads (suc n) pairs a b = list_any (λ p. (p.0 == a || leads n pairs a p.0) && p.1 == b) pairs

abbrev pub is_above : List Pair → ℕ → ℕ → Bool
is_above pairs = leads (length pairs) pairs

-- of n tags those that parent pairs lead to from the ideal tag, this one left out, ascending
unfoldable pub ancestors : ℕ → Relations → ℕ → List ℕ
ancestors n R t = filter (λ b. not (b == ideal_of R t) && is_above (steps_of R) (ideal_of R t) b) (range_with_len 0 n)

-- the tag implies b
unfoldable pub implies : Relations → ℕ → ℕ → Bool
implies R t b = b == ideal_of R t || is_above (steps_of R) (ideal_of R t) b

-- what a tag implies of n tags, ascending
abbrev pub implied : ℕ → Relations → ℕ → List ℕ
implied n R t = filter (implies R t) (range_with_len 0 n)

-- the tag implies more of n tags than a tag may
abbrev pub is_over : ℕ → Relations → ℕ → Bool
is_over n R t = nat_lt MAX_IMPLIED (length (implied n R t))

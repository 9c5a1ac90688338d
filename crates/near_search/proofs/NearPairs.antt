-- The pair of a searched file and another: where they are near after the search, and where they aren't.
use Rattle.std.proofs.Common.{◌≡◌, ◌<◌, ◌≤◌, ◌&&◌, ℕ, min, nat_le, Bool, true, false, if◌then◌else◌, List, Option, Some, None, ap, ◌∙◌, inl, inr, arith}
use Rattle.std.specs.Option.{option_map, option_map_or}
use Rattle.std.proofs.lemmas.Bool.{and_from, and_left, and_right, cases_lt, eq-eqb, le-leb, lt-leb, ne_eqb}
use Rattle.media_types.specs.declared.numbers.FileNo.{FileNo}
use Rattle.file_records.specs.Near.{distance_at, near_at}
use Rattle.file_records.specs.Searching.{is_named, is_short_of, passes, reaches, searched}
use Rattle.file_records.specs.declared.file_row.FileRow.{FileRow}
use Rattle.near_search.specs.Noting.{near_pair, pair_of}
use Rattle.near_search.proofs.AfterSearch.{near_by_distance, near_by_reach}

pub not_itself : (rows : List FileRow) (f g : FileNo) → f.0 ≡ g.0 → near_pair rows f g ≡ None
unfolding near_pair
not_itself rows f g same = ap (λ b. if b then None else option_map (pair_of f g) (near_at rows f.0 g.0)) (eq-eqb f.0 g.0 same)

pub pair_if_near : (rows : List FileRow) (f g : FileNo) (found : Option ℕ) → (f.0 ≡ g.0 → ⊥) → near_at rows f.0 g.0 ≡ found → near_pair rows f g ≡ option_map (pair_of f g) found
unfolding near_pair
pair_if_near rows f g found differ is =
    ap (λ b. if b then None else option_map (pair_of f g) (near_at rows f.0 g.0)) (ne_eqb f.0 g.0 differ) ∙ ap (option_map (pair_of f g)) is

module _ (d : ℕ) (risen : List FileNo) (rows : List FileRow) (f g : FileNo) (differ : f.0 ≡ g.0 → ⊥) where
  abbrev now : List FileRow
  now = searched d risen rows

  pub no_distance : distance_at rows f.0 g.0 ≡ None → near_pair now f g ≡ None
  no_distance is = pair_if_near now f g None differ (near_by_distance d risen rows f.0 g.0 None is)

  module _ (away : ℕ) (far : Option ℕ) (is : distance_at rows f.0 g.0 ≡ Some away) (named : is_named risen f.0 ≡ true) (short : passes (is_short_of d) rows f.0 ≡ true)
      (reach : (m : ℕ) → passes (reaches m) now g.0 ≡ option_map_or (nat_le m) far false) where
    near_if : (b : Bool) → (nat_le away d && option_map_or (nat_le away) far false) ≡ b → near_pair now f g ≡ option_map (pair_of f g) (if b then Some away else None)
    near_if b reached = pair_if_near now f g (if b then Some away else None) differ
        (near_by_reach d risen rows f.0 g.0 away far is named short reach ∙ ap (λ t. if t then Some away else None) reached)

    pub not_searched : far ≡ None → near_pair now f g ≡ None
    not_searched never = near_if false (and_right _ _ (ap (λ o. option_map_or (nat_le away) o false) never))

    pub too_far : (r : ℕ) → far ≡ Some r → min d r < away → near_pair now f g ≡ None
    too_far r reached past = near_if false (elim (cases_lt d away) [
      | inl beyond ↦ and_left _ _ (lt-leb away d beyond)
      | inr within ↦ and_right _ _ (ap (λ o. option_map_or (nat_le away) o false) reached ∙ lt-leb away r (omega arith))
    ])

    pub near_enough : (r : ℕ) → far ≡ Some r → away ≤ min d r → near_pair now f g ≡ Some (pair_of f g away)
    near_enough r reached within = near_if true (and_from _ _ (le-leb away d (omega arith)) (ap (λ o. option_map_or (nat_le away) o false) reached ∙ le-leb away r (omega arith)))

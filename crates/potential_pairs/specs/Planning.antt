-- What is found by a search, and what a plan of the pairs does.
use Rattle.std.specs.Prelude.{◌≡◌, ◌<◌, ◌≤◌, ◌==◌, ◌||◌, ℕ, Bool, if◌then◌else◌, filter, max, List, [], ◌∷◌, length, Option, Some, None, is_some, All, AllPairs}
use Rattle.std.specs.List.{list_any}
use Rattle.std.specs.BTreeMap.{insert_entry}
use Rattle.std.specs.BTreeSet.{insert_key}
use Rattle.std.specs.Ordering.{nat_cmp}
use Rattle.relation_groups.specs.declared.moves.Move.{Move}
use Rattle.spare_tables.specs.Keys.{value_of, without, without_row}
use Rattle.spare_tables.specs.Order.{pair_cmp}
use Rattle.media_types.specs.declared.limits.TheConstants.{MAX_DISTANCE}
use Rattle.media_types.specs.declared.numbers.FileNo.{FileNo}
use Rattle.potential_pairs.specs.Potential.{PairsView, Row}
use Rattle.potential_pairs.specs.Tallies.{TallyRow, count_at, if_any, least_counted}

-- two files and their distance
abbrev pub Found : Type 0
Found = FileNo × FileNo × ℕ

-- the near pairs, with the found ones among them
abbrev pub with_found : List Found → List Row → List Row
with_found [] near = near
with_found (found ∷ more) near = with_found more (insert_entry pair_cmp near (found.0.0, found.1.0) found.2)

-- A found pair is of two of the first n files, the lower first, at a distance within which files are
-- searched. Where it is near already, it has that distance.
pub record IsFound (n : ℕ) (near : List Row) (found : Found) : Type 0 where
  pub lower : found.0.0 < found.1.0
  pub there : found.1.0 < n
  pub shallow : found.2 ≤ MAX_DISTANCE
  pub same : (d : ℕ) → value_of pair_cmp near (found.0.0, found.1.0) ≡ Some d → d ≡ found.2

-- Each is such a pair, and none is found at two distances.
pub record AreFound (n : ℕ) (near : List Row) (found : List Found) : Type 0 where
  pub each : All (IsFound n near) found
  pub alike : All (λ a. All (λ b. a.0 ≡ b.0 → a.1 ≡ b.1 → a.2 ≡ b.2) found) found

-- rows with the one of a name set, or taken out
abbrev pub with_value : {V : Type 0} → List ((ℕ × ℕ) × V) → ℕ × ℕ → Option V → List ((ℕ × ℕ) × V)
with_value rows name None = without_row pair_cmp rows name
with_value rows name (Some v) = insert_entry pair_cmp rows name v

-- rows once each change is made, first to last; the function says what a change makes of the row of its name
abbrev pub with_changes : {C V : Type 0} → (C → Option V) → List ((ℕ × ℕ) × C) → List ((ℕ × ℕ) × V)
    → List ((ℕ × ℕ) × V)
with_changes become [] rows = rows
with_changes become (change ∷ more) rows = with_changes become more (with_value rows change.0 (become change.1))

-- the deleted files once a file is live again, or deleted
abbrev pub with_live : Option (FileNo × Bool) → List ℕ → List ℕ
with_live None gone = gone
with_live (Some file) gone = if file.1 then without nat_cmp gone file.0.0 else insert_key nat_cmp gone file.0.0

-- what a contract sees of a plan: the near pairs that it adds, the potential pairs whose tallies are new, and
-- whether a file is live from now on
pub record PlanView : Type 0 where
  pub near : List Row
  pub tallies : List TallyRow
  pub live : Option (FileNo × Bool)

-- for how many changes a plan needs room
abbrev pub room_of : PlanView → ℕ
room_of plan = max (max (length plan.near) (length plan.tallies)) (if is_some plan.live then 1 else 0)

-- the pairs once a plan is carried out on these
unfoldable pub after : PlanView → PairsView → PairsView
after plan rows = record {
  near = with_changes Some plan.near rows.near;
  gone = with_live plan.live rows.gone;
  pairs = with_changes least_counted plan.tallies rows.pairs;
  tallies = with_changes if_any plan.tallies rows.tallies;
}

-- the file is one of those that are moved
abbrev pub is_moved_file : List Move → ℕ → Bool
is_moved_file moves f = list_any (λ m. m.file.0 == f) moves

-- how many near pairs the tally of a name counts at a distance once a plan is carried out on these pairs
unfoldable pub planned_count : PlanView → PairsView → ℕ × ℕ → ℕ → ℕ
planned_count plan rows name d = count_at (value_of pair_cmp (after plan rows).tallies name) d

-- the moves come in the order of their files, each of another one
abbrev pub AscendByFile : List Move → Type 0
AscendByFile moves = AllPairs (λ a b. a.file.0 < b.file.0) moves

-- the near pair is of this file
abbrev pub has_file : ℕ → ℕ × ℕ → Bool
has_file f files = f == files.0 || f == files.1

-- the near pairs that have a file among those that are moved
abbrev pub touched : List Move → List Row → List Row
touched moves near = filter (λ row. is_moved_file moves row.0.0 || is_moved_file moves row.0.1) near

-- What one more row, or one that is removed, leaves of the rows of a set and of its closedness.
use Rattle.std.proofs.Common.{◌≡◌, ◌∙◌, ℕ, zero, suc, ◌+◌, ◌<◌, ◌≤◌, not, Bool, true, false, cond, List, [], ◌∷◌, ◌++◌, length, length-append, map, get_or, refl, ap, arith}
use Rattle.std.specs.List.{AllByRecursion}
use Rattle.std.proofs.lemmas.List.{append-nil}
use Rattle.std.proofs.lemmas.List.Elements.{All-from_recursion, All-push, filter-append}
use Rattle.sibling_chains.specs.Clustered.{is_of_two, label_of}
use Rattle.sibling_chains.specs.Clusters.{IsClosed, labels, outside, rows_within}
use Rattle.sibling_chains.specs.ClusterLaws.{labels-both}
use Rattle.sibling_chains.specs.Following.{Pair}
use Rattle.sibling_chains.specs.Grouping.{is_either}
use Rattle.sibling_chains.specs.Known.{Known}
use Rattle.sibling_chains.specs.Planning.{after, changed, row_of}
use Rattle.sibling_chains.specs.Recorded.{no_row, pair_of, removed, removed_at, standing_place}
use Rattle.sibling_chains.specs.RowLaws.{All-removed, length-removed, map-removed}
use Rattle.sibling_chains.specs.declared.sibling_plan.Change.{Change}
use Rattle.sibling_chains.specs.declared.sibling_plan.Change.TheVariants.{Add, Remove, Tie, Order}
use Rattle.sibling_chains.specs.declared.sibling_plan.SiblingPlan.{SiblingPlan}
use Rattle.sibling_chains.specs.declared.relation_row.RelationRow.{RelationRow}

-- the pairs of the rows are the same after a removal
pub pairs-removed : (n : ℕ) (rows : List RelationRow) → map pair_of (removed_at n rows) ≡ map pair_of rows
pairs-removed = map-removed pair_of (λ row. refl)

-- a row of the set comes
pub outside-added : (S : ℕ → Bool) (rows : List RelationRow) (row : RelationRow) → S row.first.0 ≡ true → rows_within (outside S) (rows ++ row ∷ []) ≡ rows_within (outside S) rows
outside-added S rows row here =
    filter-append (λ (r : RelationRow). outside S r.first.0) rows (row ∷ [])
    ∙ ap (λ (b : Bool). rows_within (outside S) rows ++ cond (not b) (row ∷ []) []) here ∙ append-nil (rows_within (outside S) rows)

pub closed-added : (S : ℕ → Bool) (rows : List RelationRow) (row : RelationRow) → IsClosed S rows → S row.first.0 ≡ S row.second.0 → IsClosed S (rows ++ row ∷ [])
closed-added S rows row closed both = All-push (λ (r : RelationRow). S r.first.0 ≡ S r.second.0) rows row closed both

-- a row of the set goes
pub outside-removed : (S : ℕ → Bool) (n : ℕ) (rows : List RelationRow) → (n < length rows → S (get_or rows n no_row).first.0 ≡ true)
    → rows_within (outside S) (removed_at n rows) ≡ rows_within (outside S) rows
outside-removed S n [] here = refl
outside-removed S zero (row ∷ rows) here = rw (here (omega arith)) refl
outside-removed S (suc n) (row ∷ rows) here = ap (λ l. cond (not (S row.first.0)) (row ∷ l) l) (outside-removed S n rows (λ lt. here (omega (arith, lt))))

pub closed-removed : (S : ℕ → Bool) (n : ℕ) (rows : List RelationRow) → IsClosed S rows → IsClosed S (removed_at n rows)
closed-removed S n rows closed = All-removed (λ (r : RelationRow). S r.first.0 ≡ S r.second.0) (λ row both. both) n rows closed

-- as many rows of a set
pub count-removed : (S : ℕ → Bool) (n : ℕ) (rows : List RelationRow) → length (rows_within S (removed_at n rows)) ≡ length (rows_within S rows)
count-removed S n [] = refl
count-removed S zero (row ∷ rows) = by (S row.first.0) where
  by : (b : Bool) → length (cond b (removed row ∷ rows_within S rows) (rows_within S rows)) ≡ length (cond b (row ∷ rows_within S rows) (rows_within S rows))
  by true = refl
  by false = refl
count-removed S (suc n) (row ∷ rows) = by (S row.first.0) (count-removed S n rows) where
  by : (b : Bool) → length (rows_within S (removed_at n rows)) ≡ length (rows_within S rows)
      → length (cond b (row ∷ rows_within S (removed_at n rows)) (rows_within S (removed_at n rows))) ≡ length (cond b (row ∷ rows_within S rows) (rows_within S rows))
  by true rest = ap suc rest
  by false rest = rest

-- ---- two clusters are closed under both kinds of rows

rows-part : (L : ℕ → ℕ) (a b : ℕ) (rows : List RelationRow) (later : List Pair) → AllByRecursion (λ (p : Pair). L p.0 ≡ L p.1) (map pair_of rows ++ later)
    → AllByRecursion (λ (row : RelationRow). is_either a b (L row.first.0) ≡ is_either a b (L row.second.0)) rows × AllByRecursion (λ (p : Pair). L p.0 ≡ L p.1) later
rows-part L a b [] later all = (tt, all)
rows-part L a b (row ∷ rows) later all = let rest = rows-part L a b rows later all.1 in ((ap (is_either a b) all.0, rest.0), rest.1)

rows-last : (L : ℕ → ℕ) (a b : ℕ) (rows : List RelationRow) → AllByRecursion (λ (p : Pair). L p.0 ≡ L p.1) (map pair_of rows)
    → AllByRecursion (λ (row : RelationRow). is_either a b (L row.first.0) ≡ is_either a b (L row.second.0)) rows
rows-last L a b [] all = tt
rows-last L a b (row ∷ rows) all = (ap (is_either a b) all.0, rows-last L a b rows all.1)

pub two-closed : (siblings parents : List RelationRow) (a b : ℕ) → IsClosed (is_of_two siblings (map pair_of parents) a b) siblings × IsClosed (is_of_two siblings (map pair_of parents) a b) parents
two-closed siblings parents a b =
    let L : ℕ → ℕ = label_of siblings (map pair_of parents) in
    let S : ℕ → Bool = is_of_two siblings (map pair_of parents) a b in
    let parts = rows-part L (L a) (L b) siblings (map pair_of parents) (labels-both (map pair_of siblings ++ map pair_of parents) (λ t. t)) in (
      All-from_recursion (λ (row : RelationRow). S row.first.0 ≡ S row.second.0) siblings parts.0,
      All-from_recursion (λ (row : RelationRow). S row.first.0 ≡ S row.second.0) parents (rows-last L (L a) (L b) parents parts.1),
    )

-- ---- a plan records one row at most

pub one-more : (plan : SiblingPlan) (v : Known) → length (after plan v).rows ≤ length v.rows + 1
unfolding after
one-more plan v = by plan.change where
  by : (change : Change) → length (changed change v).rows ≤ length v.rows + 1
  by (Add it) = omega (arith, length-append v.rows (row_of it ∷ []))
  by (Remove it) = omega (arith, length-removed (standing_place it.service.0 it.bad.0 v.rows) v.rows)
  by (Tie it) = omega arith
  by (Order it) = omega arith

-- An undoing makes the decisions of all files anew.
use Rattle.std.proofs.Common.{◌≡◌, ◌≢◌, ◌<◌, ◌≤◌, ◌+◌, ℕ, zero, suc, Bool, true, false, not, cond, ◌==◌, ◌||◌, List, [], ◌∷◌, map, All, refl, arith, ap, sym, ◌∙◌}
use Rattle.std.specs.List.{range_with_len, AllByRecursion}
use Rattle.std.proofs.lemmas.Bool.{eqb-false}
use Rattle.std.proofs.lemmas.List.Elements.{All-contains, All-from_recursion, recursion_from_All}
use Rattle.media_types.specs.declared.decision.Decision.{Decision}
use Rattle.media_types.specs.declared.numbers.FileNo.{FileNo}
use Rattle.decision_book.specs.declared.decision_row.DecisionRow.{DecisionRow}
use Rattle.decision_book.specs.Recorded.{undone_at}
use Rattle.decision_book.specs.Standing.{decision_of, standing}
use Rattle.decision_book.specs.DecisionLaws.{all_recorded, undoing_keeps_decisions}
use Rattle.relation_groups.specs.Clusters.{IsSplitBy, IsWithin, is_one_of, outside, patched, touching}
use Rattle.relation_groups.specs.ClosedLaws.{closed-split, others-stay, within-closed}
use Rattle.relation_groups.specs.Laws.{AreOfTwo}
use Rattle.media_types.specs.Numbered.{files}
use Rattle.relation_groups.specs.Relations.{AreAmong, relations}

-- ---- the decisions that stand

-- what holds of each decision holds of each that stands
all_standing : (P : Decision → Type 0) (rows : List DecisionRow) → All P (map decision_of rows) → All P (standing rows)
all_standing P rows all = λ k d lt. All-contains P (map decision_of rows) _ all (all_recorded rows k d lt)

pub standing_among : (n : ℕ) (rows : List DecisionRow) → AreAmong n (map decision_of rows) → AreAmong n (standing rows)
standing_among n rows among = all_standing (λ d. (d.a.0 < n) × (d.b.0 < n)) rows among

pub standing_of_two : (rows : List DecisionRow) → AreOfTwo (map decision_of rows) → AreOfTwo (standing rows)
standing_of_two rows two = all_standing (λ d. d.a.0 ≢ d.b.0) rows two

-- also once one is undone
pub left_among : (n m : ℕ) (rows : List DecisionRow) → AreAmong m (map decision_of rows) → AreAmong m (standing (undone_at n rows))
left_among n m rows among = standing_among m (undone_at n rows) (rw (undoing_keeps_decisions n rows) among)

pub left_of_two : (n : ℕ) (rows : List DecisionRow) → AreOfTwo (map decision_of rows) → AreOfTwo (standing (undone_at n rows))
left_of_two n rows two = standing_of_two (undone_at n rows) (rw (undoing_keeps_decisions n rows) two)

-- ---- all files

abbrev pub file_of : ℕ → FileNo
file_of k = record { 0 = k }

here_or_later : (here later : Bool) → (here ≡ false → later ≡ true) → (here || later) ≡ true
here_or_later true later rest = refl
here_or_later false later rest = rest refl

among_range : (n k f : ℕ) → k ≤ f → f < k + n → is_one_of (map file_of (range_with_len k n)) f ≡ true
among_range zero k f from below = absurd (omega (arith, from, below))
among_range (suc n) k f from below =
    here_or_later (k == f) (is_one_of (map file_of (range_with_len (k + 1) n)) f) (λ other.
    let apart = eqb-false k f other in
    among_range n (k + 1) f (omega (arith, from, apart)) (omega (arith, below)))

pub is_a_file : (n f : ℕ) → f < n → is_one_of (files n) f ≡ true
is_a_file n f below = among_range n 0 f (omega arith) (omega (arith, below))

range_known : (n k m : ℕ) → k + n ≤ m → AllByRecursion (λ f. f.0 < m) (map file_of (range_with_len k n))
range_known zero k m le = tt
range_known (suc n) k m le = (omega (arith, le), range_known n (k + 1) m (omega (arith, le)))

pub files_known : (n m : ℕ) → n ≤ m → All (λ f. f.0 < m) (files n)
files_known n m le =
    let P : FileNo → Type 0 = λ f. f.0 < m in
    All-from_recursion P (files n) (range_known n 0 m (omega (arith, le)))

pub all_within : (n : ℕ) (ds : List Decision) → AreAmong n ds → IsWithin (is_one_of (files n)) ds
all_within n ds among = λ k d lt. let here = among k d lt in (is_a_file n _ here.0, is_a_file n _ here.1)

touching_all : (S : ℕ → Bool) (ds : List Decision) → AllByRecursion (λ d. (S d.a.0 ≡ true) × (S d.b.0 ≡ true)) ds → touching S ds ≡ ds
touching_all S [] within = refl
touching_all S (d ∷ ds) within =
    ap (λ (b : Bool). cond b (d ∷ touching S ds) (touching S ds)) within.0.0 ∙ ap (λ es. d ∷ es) (touching_all S ds within.1)

touching_none : (S : ℕ → Bool) (ds : List Decision) → AllByRecursion (λ d. (S d.a.0 ≡ true) × (S d.b.0 ≡ true)) ds → touching (outside S) ds ≡ []
touching_none S [] within = refl
touching_none S (d ∷ ds) within =
    ap (λ (b : Bool). cond (not b) (d ∷ touching (outside S) ds) (touching (outside S) ds)) within.0.0 ∙ touching_none S ds within.1

pub all_split : (n : ℕ) (ds : List Decision) → AreAmong n ds → IsSplitBy (is_one_of (files n)) (relations ds)
all_split n ds among = let S = is_one_of (files n) in closed-split S ds (within-closed S ds (all_within n ds among))

-- all decisions of all files, made anew, are all there is
pub all_anew : (n : ℕ) (ds es : List Decision) → AreAmong n ds → AreAmong n es →
    patched (is_one_of (files n)) (relations es) (relations ds) ≡ relations es
all_anew n ds es among also =
    let S = is_one_of (files n) in
    let P : Decision → Type 0 = λ d. (S d.a.0 ≡ true) × (S d.b.0 ≡ true) in
    let these = all_within n ds among in
    let those = all_within n es also in
    let none_these = touching_none S ds (recursion_from_All P ds these) in
    let none_those = touching_none S es (recursion_from_All P es those) in
    ap (λ fs. patched S (relations fs) (relations ds)) (sym (touching_all S es (recursion_from_All P es those)))
    ∙ sym (others-stay S ds es (within-closed S ds these) (within-closed S es those) (none_these ∙ sym none_those))

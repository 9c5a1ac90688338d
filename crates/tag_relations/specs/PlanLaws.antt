-- Which tag would imply too many once a plan is carried out, by the tags that it touches.
use Rattle.std.proofs.Common.{◌≡◌, ◌∙◌, ◌⊎◌, ◌<◌, ◌≤◌, ◌+◌, ◌*◌, ◌==◌, ◌&&◌, ◌||◌, ℕ, Bool, true, false, nat_lt, None, List, [], ◌∷◌, length, filter, refl, sym, ap, inl, inr, arith}
use Rattle.std.specs.Prelude.{slice_index_or}
use Rattle.std.specs.List.{list_any, range_with_len}
use Rattle.std.proofs.Math.Nat.{mul-le-mul}
use Rattle.std.proofs.lemmas.Bool.{eq-eqb, cases_eq, lt-ltb, ne_eqb}
use Rattle.std.proofs.lemmas.List.Elements.{filter_agree}
use Rattle.parent_closure.specs.LimitLaws.{AreBelow, below, below-closed, over-changed}
use Rattle.parent_closure.specs.Limits.{over_among, over_limit}
use Rattle.parent_closure.specs.Reached.{has}
use Rattle.parent_closure.specs.Sets.{of_set}
use Rattle.sibling_chains.specs.Clustered.{is_of_two}
use Rattle.sibling_chains.specs.Clusters.{outside, rows_within}
use Rattle.sibling_chains.specs.Known.{is_in_two, label_in, tags_of_two}
use Rattle.sibling_chains.specs.NumberLaws.{any-passed}
use Rattle.sibling_chains.specs.declared.relation_row.RelationRow.{RelationRow}
use Rattle.tag_types.specs.declared.limits.TheConstants.{MAX_SERVICES}
use Rattle.tag_relations.specs.declared.plans.RelationPlan.{RelationPlan}
use Rattle.tag_relations.specs.Planning.{IsPlanFor, after}
use Rattle.tag_relations.specs.Related.{AreTied, Related, relations_at}
use Rattle.tag_relations.specs.Work.{cluster_rows, cluster_tags, cluster_work, is_beside}
use Rattle.tag_relations.specs.WorkLaws.{beside-below, same-numbers, some-work}

-- ---- the touched tags

turned : (x b : ℕ) → (b == x) ≡ (x == b)
turned x b = elim (cases_eq x b) [
  | inl same ↦ eq-eqb b x (sym same) ∙ sym (eq-eqb x b same)
  | inr differ ↦ ne_eqb b x (λ is. differ (sym is)) ∙ sym (ne_eqb x b differ)
]

pub has-turned : (list : List ℕ) (b : ℕ) → has list b ≡ list_any (λ x. x == b) list
has-turned [] b = refl
has-turned (x ∷ list) b = ap (λ (here : Bool). here || has list b) (turned x b) ∙ ap (λ (rest : Bool). (x == b) || rest) (has-turned list b)

-- what stands among the numbers below n that pass, where all that pass are below n
pub has-passed : (test : ℕ → Bool) (n : ℕ) → ((t : ℕ) → test t ≡ true → t < n) → (t : ℕ) → has (filter test (range_with_len 0 n)) t ≡ test t
has-passed test n below t = has-turned (filter test (range_with_len 0 n)) t ∙ any-passed test n t ∙ by (test t) refl
  where
    and-false : (b : Bool) → (b && false) ≡ false
    and-false true = refl
    and-false false = refl

    by : (b : Bool) → test t ≡ b → (nat_lt t n && b) ≡ b
    by true is = rw (lt-ltb t n (below t is)) refl
    by false is = and-false (nat_lt t n)

module _ (v : Related) (tied : AreTied v) (known : AreBelow v.siblings.tags v.siblings.rows) (also : AreBelow v.siblings.tags v.parents.rows) (a b : ℕ) where
  beside-two : (t : ℕ) → is_in_two v.siblings a b t ≡ is_beside v.siblings.rows v.parents.rows a b t
  beside-two t = ap (λ ties. is_of_two v.siblings.rows ties a b t) tied.ties

  two-below : (m : ℕ) → AreBelow m v.siblings.rows → AreBelow m v.parents.rows → a < m → b < m → (t : ℕ) → is_in_two v.siblings a b t ≡ true → t < m
  two-below m siblings parents lt_a lt_b t is = beside-below v.siblings.rows v.parents.rows m a b siblings parents lt_a lt_b t (sym (beside-two t) ∙ is)

  -- a tag is touched where it is of the clusters
  pub has-two : a < v.siblings.tags → b < v.siblings.tags → (t : ℕ) → has (tags_of_two v.siblings a b) t ≡ is_in_two v.siblings a b t
  has-two lt_a lt_b = has-passed (is_in_two v.siblings a b) v.siblings.tags (two-below v.siblings.tags known also lt_a lt_b)

  -- the touched tags are those of the first m tags that are touched
  pub touched-among : (m : ℕ) → a < v.siblings.tags → b < v.siblings.tags → AreBelow m v.siblings.rows → AreBelow m v.parents.rows → a < m → b < m
      → filter (has (tags_of_two v.siblings a b)) (range_with_len 0 m) ≡ tags_of_two v.siblings a b
  touched-among m lt_a lt_b siblings parents few_a few_b =
      filter_agree (has (tags_of_two v.siblings a b)) (is_in_two v.siblings a b) (has-two lt_a lt_b) (range_with_len 0 m)
      ∙ same-numbers (is_in_two v.siblings a b) m v.siblings.tags (two-below m siblings parents few_a few_b) (two-below v.siblings.tags known also lt_a lt_b)

-- ---- the lowest that would imply too many

module _ (plan : RelationPlan) (v : Related) (fits : IsPlanFor plan v) (a b n m : ℕ) (touched : plan.touched.items ≡ tags_of_two v.siblings a b)
    (lt_a : a < v.siblings.tags) (lt_b : b < v.siblings.tags) (le : n ≤ m) (few_a : a < m) (few_b : b < m)
    (siblings : AreBelow n v.siblings.rows) (parents : AreBelow n v.parents.rows) (new : (t : ℕ) → n ≤ t → t < m → (t ≡ a) ⊎ (t ≡ b)) where
  more : (rows : List RelationRow) → AreBelow n rows → AreBelow m rows
  more rows there = λ k d lt. let at = there k d lt in (omega (arith, at.0, le), omega (arith, at.1, le))

  touched-is : (t : ℕ) → has plan.touched.items t ≡ is_in_two v.siblings a b t
  touched-is t = ap (λ list. has list t) touched ∙ has-two v fits.before fits.known.0 fits.known.1 a b lt_a lt_b t

  new-touched : (t : ℕ) → n ≤ t → t < m → has plan.touched.items t ≡ true
  new-touched t low high = touched-is t ∙ elim (new t low high) [
    | inl first ↦ ap (is_in_two v.siblings a b) first ∙ rw (eq-eqb (label_in v.siblings a) (label_in v.siblings a) refl) refl
    | inr second ↦ ap (is_in_two v.siblings a b) second ∙ rw (eq-eqb (label_in v.siblings b) (label_in v.siblings b) refl) (or-true (label_in v.siblings b == label_in v.siblings a))
  ]
    where
      or-true : (x : Bool) → (x || true) ≡ true
      or-true true = refl
      or-true false = refl

  same-outside : (s : ℕ) → of_set (outside (has plan.touched.items)) (relations_at v s) ≡ of_set (outside (has plan.touched.items)) (relations_at (after plan v) s)
  same-outside s =
      let w = fits.within in
      λ i. record {
        sibling_order = slice_index_or (sym w.sibling_orders i) s [];
        parent_order = slice_index_or (sym w.parent_orders i) s [];
        siblings = sym w.siblings i;
        parents = sym w.parents i;
      }

  -- the touched tags alone tell which tag would imply too many
  pub over-planned : (services : ℕ) → over_limit services n (relations_at v) ≡ None
      → over_limit services m (relations_at (after plan v)) ≡ over_among services m (relations_at (after plan v)) plan.touched.items
  over-planned services none =
      let w = fits.within in
      over-changed services n m (relations_at v) (relations_at (after plan v)) (has plan.touched.items) le
      (λ s. (below-closed n v.siblings.rows siblings, below-closed n v.parents.rows parents)) (λ s. (w.before.siblings, w.before.parents)) (λ s. (w.after.siblings, w.after.parents))
      same-outside new-touched none
      ∙ ap (over_among services m (relations_at (after plan v)))
      (ap (λ list. filter (has list) (range_with_len 0 m)) touched
      ∙ touched-among v fits.before fits.known.0 fits.known.1 a b m lt_a lt_b (more v.siblings.rows siblings) (more v.parents.rows parents) few_a few_b
      ∙ sym touched)

-- ---- the reads of that

-- what is read for it is within sixteen times the work
pub over-reads : (v : Related) (plan : RelationPlan) (a b : ℕ) → IsPlanFor plan v → plan.touched.items ≡ tags_of_two v.siblings a b → a < v.siblings.tags → b < v.siblings.tags
    → length v.siblings.orders ≤ MAX_SERVICES
    → length v.siblings.orders * (length plan.touched.items + 2 * length (rows_within (has plan.touched.items) v.parents.rows)) ≤ 16 * cluster_work v.siblings.rows v.parents.rows v.siblings.tags a b
over-reads v plan a b fits touched lt_a lt_b few =
    let S : ℕ → Bool = is_beside v.siblings.rows v.parents.rows a b in
    let is : (t : ℕ) → has plan.touched.items t ≡ S t = λ t. ap (λ list. has list t) touched ∙ has-two v fits.before fits.known.0 fits.known.1 a b lt_a lt_b t ∙ beside-two v fits.before fits.known.0 fits.known.1 a b t in
    let rows : length (rows_within (has plan.touched.items) v.parents.rows) ≡ length (rows_within S v.parents.rows) =
    ap length (filter_agree (λ (row : RelationRow). has plan.touched.items row.first.0) (λ row. S row.first.0) (λ row. is row.first.0) v.parents.rows) in
    let tags : length plan.touched.items ≡ cluster_tags v.siblings.rows v.parents.rows v.siblings.tags a b =
    ap length (touched ∙ filter_agree (is_in_two v.siblings a b) S (beside-two v fits.before fits.known.0 fits.known.1 a b) (range_with_len 0 v.siblings.tags)) in
    let work = some-work (cluster_rows v.siblings.rows v.parents.rows a b) (cluster_tags v.siblings.rows v.parents.rows v.siblings.tags a b) in
    let each : length plan.touched.items + 2 * length (rows_within (has plan.touched.items) v.parents.rows) ≤ 2 * cluster_work v.siblings.rows v.parents.rows v.siblings.tags a b =
    omega (arith, rows, tags, work) in
    let all = mul-le-mul {n₁ = length v.siblings.orders} {m₁ = length plan.touched.items + 2 * length (rows_within (has plan.touched.items) v.parents.rows)} {n₂ = 8} {m₂ = 2 * cluster_work v.siblings.rows v.parents.rows v.siblings.tags a b} few each in
    omega (arith, all)

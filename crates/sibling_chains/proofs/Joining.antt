-- The labels of clusters that are kept, once tags are tied together.
use Rattle.std.proofs.Common.{◌≡◌, ◌∙◌, ℕ, ◌<◌, ◌≤◌, ◌==◌, ◌&&◌, min, Bool, true, false, cond, List, [], ◌∷◌, ◌++◌, length, map, filter, get_or, All, refl, sym, ap, subst, inl, inr, arith}
use Rattle.std.proofs.Math.Path.{fun_ext}
use Rattle.std.specs.List.{list_any, range_with_len}
use Rattle.std.proofs.lemmas.Bool.{cases_Bool, cases_lt, eq-eqb, le-ltb, lt-ltb}
use Rattle.std.proofs.lemmas.Bool.Decides.{nat_tests}
use Rattle.std.proofs.lemmas.List.{append-nil, append_assoc, get_or-map, get_or_default, get_or_past, length-map, length_push, map-append, same_lists}
use Rattle.std.proofs.lemmas.List.Elements.{All-push, All-weaker}
use Rattle.tag_types.specs.declared.limits.TheConstants.{MAX_TAGS}
use Rattle.sibling_chains.specs.declared.relation_row.RelationRow.{RelationRow}
use Rattle.sibling_chains.specs.Clustered.{AreClustered, all_pairs, is_of_two, label_of}
use Rattle.sibling_chains.specs.Clusters.{in_cluster, joined, labels}
use Rattle.sibling_chains.specs.Ends.{at}
use Rattle.sibling_chains.specs.Following.{Pair}
use Rattle.sibling_chains.specs.Grouping.{is_either}
use Rattle.sibling_chains.specs.LabelLaws.{labels-least, one-tie}
use Rattle.sibling_chains.specs.RowLaws.{All-removed, map-removed}
use Rattle.sibling_chains.specs.Recorded.{no_row, pair_of, removed, removed_at}
use Rattle.sibling_chains.specs.NumberLaws.{any-passed}
use Rattle.sibling_chains.proofs.GroupLists.{at-own}

-- ---- the labels of two clusters
either-same : (la lb l : ℕ) → (cond (is_either la lb l) (min la lb) l == min la lb) ≡ is_either la lb l
either-same la lb l = elim (cases_Bool (is_either la lb l)) [
  | inl hit ↦ rw hit (eq-eqb (min la lb) (min la lb) refl)
  | inr miss ↦ rw miss (apart la lb l miss)
]
  where
    apart : (la lb l : ℕ) → is_either la lb l ≡ false → (l == min la lb) ≡ false
    apart la lb l h = grind (arith, nat_tests)

either-first : (la lb : ℕ) → is_either la lb la ≡ true
either-first la lb = rw (eq-eqb la la refl) refl

-- the cluster of a tag in the ties once two tags are tied is that of either of the two
module _ (rows : List RelationRow) (ties : List Pair) (a b : ℕ) where
  pub of-first : is_of_two rows ties a b a ≡ true
  of-first = either-first (label_of rows ties a) (label_of rows ties b)

  -- S is the set of the two clusters
  pub tied-set : (before later : List Pair) → all_pairs rows ties ≡ before ++ later → (t : ℕ)
      → in_cluster (before ++ (a, b) ∷ later) a t ≡ is_of_two rows ties a b t
  tied-set before later e t =
      let L : ℕ → ℕ = label_of rows ties in
      let p : Pair = (a, b) in
      let tie = one-tie before later p in
      let same : (k : ℕ) → labels (before ++ p ∷ later) k ≡ joined p L k = λ k. tie k ∙ ap (λ (l : List Pair). joined p (labels l) k) (sym e) in
      ap (λ l. l == labels (before ++ p ∷ later) a) (same t)
      ∙ ap (λ l. joined p L t == l) (same a ∙ ap (λ c. cond c (min (L a) (L b)) (L a)) (either-first (L a) (L b)))
      ∙ either-same (L a) (L b) (L t)

-- ---- tags and rows get the label of the two clusters
module _ (rows : List RelationRow) (ties : List Pair) (of_tags of_rows : List ℕ) (h : AreClustered rows ties of_tags of_rows) (a b : ℕ) where
  -- a label that is kept in place of a tag that isn't there is of no cluster but its own
  pub of-behind : a < length of_tags → b < length of_tags → (t : ℕ) → length of_tags ≤ t → is_of_two rows ties a b t ≡ false
  of-behind ha hb t le =
      let own : label_of rows ties t ≡ t = sym (h.labels t) ∙ get_or_past of_tags t t le in
      let la : label_of rows ties a ≤ a = (labels-least (all_pairs rows ties)).low a in
      let lb : label_of rows ties b ≤ b = (labels-least (all_pairs rows ties)).low b in
      rw own (far (label_of rows ties a) (label_of rows ties b) t (omega (arith, la, ha, le)) (omega (arith, lb, hb, le)))
    where
      far : (x y t : ℕ) → x < t → y < t → is_either x y t ≡ false
      far x y t hx hy = grind (arith, nat_tests)

  pub tags-any : a < length of_tags → b < length of_tags → (t : ℕ)
      → list_any (λ x. x == t) (filter (is_of_two rows ties a b) (range_with_len 0 (length of_tags))) ≡ is_of_two rows ties a b t
  tags-any ha hb t =
      any-passed (is_of_two rows ties a b) (length of_tags) t
      ∙ elim (cases_lt t (length of_tags)) [
        | inl less ↦ rw (lt-ltb t (length of_tags) less) refl
        | inr more ↦ rw (le-ltb t (length of_tags) more) (sym (of-behind ha hb t more))
      ]

  pub row-label : (k : ℕ) → k < length rows → at of_rows k ≡ label_of rows ties (get_or rows k no_row).first.0
  row-label k less =
      ap (λ (l : List ℕ). at l k) h.row_labels ∙ get_or-map (λ (row : RelationRow). at of_tags row.first.0) rows k no_row k less ∙ h.labels (get_or rows k no_row).first.0

  pub rows-len : length of_rows ≡ length rows
  rows-len = ap (λ (l : List ℕ). length l) h.row_labels ∙ length-map rows (λ (row : RelationRow). at of_tags row.first.0)

  module _ (ha : a < length of_tags) (hb : b < length of_tags) (label : ℕ) (tags numbers now now_rows : List ℕ)
      (label-is : label ≡ min (label_of rows ties a) (label_of rows ties b))
      (tags-are : tags ≡ filter (is_of_two rows ties a b) (range_with_len 0 (length of_tags)))
      (numbers-are : numbers ≡ filter (λ n. is_of_two rows ties a b (get_or rows n no_row).first.0) (range_with_len 0 (length rows)))
      (now-is : (k : ℕ) → at now k ≡ cond (list_any (λ x. x == k) tags) label (at of_tags k))
      (rows-now : (k : ℕ) → at now_rows k ≡ cond (list_any (λ x. x == k) numbers) label (at of_rows k))
      (rows-long : length now_rows ≡ length of_rows) where
    now-at : (t : ℕ) → at now t ≡ cond (is_of_two rows ties a b t) label (label_of rows ties t)
    now-at t =
        now-is t
        ∙ ap (λ (l : List ℕ). cond (list_any (λ x. x == t) l) label (at of_tags t)) tags-are
        ∙ ap (λ c. cond c label (at of_tags t)) (tags-any ha hb t)
        ∙ ap (cond (is_of_two rows ties a b t) label) (h.labels t)

    pub tied-labels : (before later : List Pair) → all_pairs rows ties ≡ before ++ later → (t : ℕ) → at now t ≡ labels (before ++ (a, b) ∷ later) t
    tied-labels before later e t =
        now-at t
        ∙ ap (λ l. cond (is_of_two rows ties a b t) l (label_of rows ties t)) label-is
        ∙ sym (one-tie before later (a, b) t ∙ ap (λ (l : List Pair). joined (a, b) (labels l) t) (sym e))

    row-now : (k : ℕ) → k < length rows → at now_rows k ≡ at now (get_or rows k no_row).first.0
    row-now k less =
        let first : ℕ = (get_or rows k no_row).first.0 in
        let S : ℕ → Bool = is_of_two rows ties a b in
        rows-now k
        ∙ ap (λ (l : List ℕ). cond (list_any (λ x. x == k) l) label (at of_rows k)) numbers-are
        ∙ ap (λ c. cond c label (at of_rows k)) (any-passed (λ n. S (get_or rows n no_row).first.0) (length rows) k ∙ ap (λ c. c && S first) (lt-ltb k (length rows) less))
        ∙ ap (cond (S first) label) (row-label k less)
        ∙ sym (now-at first)

    pub tied-rows : now_rows ≡ map (λ row. at now row.first.0) rows
    tied-rows =
        let new : List ℕ = map (λ (row : RelationRow). at now row.first.0) rows in
        let len : length now_rows ≡ length rows = rows-long ∙ rows-len in
        let new-len : length new ≡ length rows = length-map rows (λ (row : RelationRow). at now row.first.0) in
        same_lists now_rows new (len ∙ sym new-len)
        (λ k d lt.
        let less : k < length rows = omega (arith, len, lt) in
        get_or_default now_rows k d k lt
        ∙ row-now k less
        ∙ sym (get_or-map (λ (row : RelationRow). at now row.first.0) rows k no_row d less))

    pub first-now : at now a ≡ label
    first-now = now-at a ∙ ap (λ c. cond c label (label_of rows ties a)) (of-first rows ties a b)

    now-known : length now ≡ length of_tags → All (λ row. (row.first.0 < length now) × (row.second.0 < length now)) rows
    now-known same = subst (λ n. All (λ (row : RelationRow). (row.first.0 < n) × (row.second.0 < n)) rows) (sym same) h.known

    pub clustered-tie : length now ≡ length of_tags → AreClustered rows (ties ++ (a, b) ∷ []) now now_rows
    clustered-tie same = record {
      labels = λ t.
          tied-labels (all_pairs rows ties) [] (sym (append-nil (all_pairs rows ties))) t
          ∙ ap (λ (l : List Pair). labels l t) (append_assoc (map pair_of rows) ties ((a, b) ∷ []));
      row_labels = tied-rows;
      known = now-known same;
      few = omega (arith, same, h.few);
    }

    pub clustered-add : length now ≡ length of_tags → (row : RelationRow) → row.first.0 ≡ a → row.second.0 ≡ b
        → AreClustered (rows ++ row ∷ []) ties now (now_rows ++ label ∷ [])
    clustered-add same row is-a is-b =
        let first : at now row.first.0 ≡ label = ap (at now) is-a ∙ first-now in
        let pair : pair_of row ≡ (a, b) = (λ i. (is-a i, is-b i)) in
        record {
          labels = λ t.
              tied-labels (map pair_of rows) ties refl t
              ∙ ap (λ (p : Pair). labels (map pair_of rows ++ p ∷ ties) t) (sym pair)
              ∙ ap (λ (l : List Pair). labels l t) (sym (ap (λ (l : List Pair). l ++ ties) (map-append pair_of rows (row ∷ [])) ∙ append_assoc (map pair_of rows) (pair_of row ∷ []) ties));
          row_labels =
              ap (λ (l : List ℕ). l ++ label ∷ []) tied-rows
              ∙ ap (λ l. map (λ (r : RelationRow). at now r.first.0) rows ++ l ∷ []) (sym first)
              ∙ sym (map-append (λ (r : RelationRow). at now r.first.0) rows (row ∷ []));
          known = All-push (λ (r : RelationRow). (r.first.0 < length now) × (r.second.0 < length now)) rows row (now-known same)
              (omega (arith, same, ha, is-a), omega (arith, same, hb, is-b));
          few = omega (arith, same, h.few);
        }

-- ---- one more tag, and a removal
pub clustered-tag : (rows : List RelationRow) (ties : List Pair) (of_tags of_rows : List ℕ) → AreClustered rows ties of_tags of_rows → length of_tags < MAX_TAGS
    → AreClustered rows ties (of_tags ++ length of_tags ∷ []) of_rows
clustered-tag rows ties of_tags of_rows h few =
    let len = length_push of_tags (length of_tags) in
    let own : at (of_tags ++ length of_tags ∷ []) ≡ at of_tags = fun_ext (at-own of_tags) in
    record {
      labels = λ t. at-own of_tags t ∙ h.labels t;
      row_labels = h.row_labels ∙ ap (λ (f : ℕ → ℕ). map (λ (row : RelationRow). f row.first.0) rows) (sym own);
      known = All-weaker (λ (row : RelationRow). (row.first.0 < length of_tags) × (row.second.0 < length of_tags))
          (λ (row : RelationRow). (row.first.0 < length (of_tags ++ length of_tags ∷ [])) × (row.second.0 < length (of_tags ++ length of_tags ∷ [])))
          (λ row both. (omega (arith, len, both.0), omega (arith, len, both.1))) rows h.known;
      few = omega (arith, len, few);
    }

pub clustered-removal : (rows : List RelationRow) (ties : List Pair) (of_tags of_rows : List ℕ) (n : ℕ) → AreClustered rows ties of_tags of_rows
    → AreClustered (removed_at n rows) ties of_tags of_rows
clustered-removal rows ties of_tags of_rows n h = record {
  labels = λ t. h.labels t ∙ ap (λ (l : List Pair). labels (l ++ ties) t) (sym (map-removed pair_of (λ row. refl) n rows));
  row_labels = h.row_labels ∙ sym (map-removed (λ (row : RelationRow). at of_tags row.first.0) (λ row. refl) n rows);
  known = All-removed (λ (row : RelationRow). (row.first.0 < length of_tags) × (row.second.0 < length of_tags)) (λ row both. both) n rows h.known;
  few = h.few;
}

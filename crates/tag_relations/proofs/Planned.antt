-- What is planned for a pair is within the clusters of its tags.
use Rattle.std.proofs.Common.{◌≡◌, ◌∙◌, ◌<◌, ◌≤◌, ◌+◌, ◌*◌, ◌++◌, ◌∷◌, ◌==◌, ◌&&◌, ◌||◌, [], ℕ, suc, cond, Bool, true, false, not, Some, None, List, get_or, length, map, filter, refl, sym, ap, subst, arith}
use Rattle.std.specs.Option.{ForSome}
use Rattle.std.specs.List.{range_with_len}
use Rattle.std.proofs.lemmas.Bool.{eq-eqb, eqb-true}
use Rattle.std.proofs.lemmas.List.{map-append}
use Rattle.std.proofs.lemmas.List.Elements.{filter_agree}
use Rattle.parent_closure.specs.CountLaws.{picked-different}
use Rattle.parent_closure.specs.Implied.{chained, planned}
use Rattle.parent_closure.specs.Kept.{Kept, first_place, is_pair, rows_of}
use Rattle.parent_closure.specs.LimitLaws.{AreBelow}
use Rattle.parent_closure.specs.Planning.{IsPlanFor as IsParentPlanFor}
use Rattle.parent_closure.specs.Planning.{after as parents_after}
use Rattle.parent_closure.specs.Reached.{has}
use Rattle.parent_closure.specs.declared.parent_plan.ParentPlan.{ParentPlan}
use Rattle.sibling_chains.specs.ChangeLaws.{closed-added, closed-removed, outside-added, outside-removed, pairs-removed, two-closed}
use Rattle.sibling_chains.specs.Clustered.{is_of_two, label_of}
use Rattle.sibling_chains.specs.Clusters.{IsClosed, outside, rows_within}
use Rattle.sibling_chains.specs.Known.{Known, is_in_two, label_in, tags_of_two}
use Rattle.sibling_chains.specs.Known.{IsSame as AreSameSiblings}
use Rattle.sibling_chains.specs.Planning.{IsPlanFor as IsSiblingPlanFor}
use Rattle.sibling_chains.specs.Planning.{after as siblings_after}
use Rattle.sibling_chains.specs.Recorded.{no_row, pair_of, removed_at, standing_place, stands_for}
use Rattle.sibling_chains.specs.declared.relation_row.RelationRow.{RelationRow}
use Rattle.sibling_chains.specs.declared.sibling_plan.SiblingPlan.{SiblingPlan}
use Rattle.tag_relations.specs.declared.plans.RelationPlan.{RelationPlan}
use Rattle.tag_relations.specs.Planning.{IsPlanFor, IsWithin}
use Rattle.tag_relations.specs.PlanLaws.{has-two}
use Rattle.parent_closure.specs.Sets.{IsClosedFor}
use Rattle.tag_relations.specs.Related.{AreTied, Related, relations_at}
use Rattle.tag_relations.specs.Work.{cluster_rows, cluster_tags, cluster_work, is_beside}
use Rattle.tag_relations.specs.WorkLaws.{rows-kept, some-work}

-- ---- rows of a pair

last-part : (a b c : Bool) → ((a && b) && c) ≡ true → c ≡ true
last-part true true c is = is
last-part true false c is = absurd (cc is)
last-part false b c is = absurd (cc is)

-- the standing row of a bad tag is its own
pub standing-first : (s b : ℕ) (rows : List RelationRow) → standing_place s b rows < length rows → (get_or rows (standing_place s b rows) no_row).first.0 ≡ b
standing-first s b [] lt = absurd (omega (arith, lt))
standing-first s b (row ∷ rows) lt = by (stands_for s b row) refl lt (standing-first s b rows)
  where
    by : (here : Bool) → stands_for s b row ≡ here → cond here 0 (suc (standing_place s b rows)) < suc (length rows)
        → (standing_place s b rows < length rows → (get_or rows (standing_place s b rows) no_row).first.0 ≡ b)
        → (get_or (row ∷ rows) (cond here 0 (suc (standing_place s b rows))) no_row).first.0 ≡ b
    by true is lt rest = eqb-true row.first.0 b (last-part row.standing (row.service.0 == s) (row.first.0 == b) is)
    by false is lt rest = rest (omega (arith, lt))

child-part : (a b c d : Bool) → (((a && b) && c) && d) ≡ true → c ≡ true
child-part true true true d is = refl
child-part true true false d is = is
child-part true false c d is = absurd (cc is)
child-part false b c d is = absurd (cc is)

-- and so is the first row that stands for a pair
pub pair-first : (s child parent : ℕ) (rows : List RelationRow) → first_place (is_pair s child parent) rows < length rows
    → (get_or rows (first_place (is_pair s child parent) rows) no_row).first.0 ≡ child
pair-first s child parent [] lt = absurd (omega (arith, lt))
pair-first s child parent (row ∷ rows) lt = by (is_pair s child parent row) refl lt (pair-first s child parent rows)
  where
    by : (here : Bool) → is_pair s child parent row ≡ here → cond here 0 (suc (first_place (is_pair s child parent) rows)) < suc (length rows)
        → (first_place (is_pair s child parent) rows < length rows → (get_or rows (first_place (is_pair s child parent) rows) no_row).first.0 ≡ child)
        → (get_or (row ∷ rows) (cond here 0 (suc (first_place (is_pair s child parent) rows))) no_row).first.0 ≡ child
    by true is lt rest = eqb-true row.first.0 child (child-part row.standing (row.service.0 == s) (row.first.0 == child) (row.second.0 == parent) is)
    by false is lt rest = rest (omega (arith, lt))

-- ---- the clusters of two tags

pub two-same : (new old : Known) → AreSameSiblings new old → (a b : ℕ) → tags_of_two old a b ≡ tags_of_two new a b
two-same new old same a b = rw (same.rows, same.ties, same.tags) refl

closed-as : (S T : ℕ → Bool) (rows : List RelationRow) → ((t : ℕ) → S t ≡ T t) → IsClosed T rows → IsClosed S rows
closed-as S T rows same closed = λ k d lt. same _ ∙ closed k d lt ∙ sym (same _)

outside-as : (S T : ℕ → Bool) (rows : List RelationRow) → ((t : ℕ) → S t ≡ T t) → rows_within (outside S) rows ≡ rows_within (outside T) rows
outside-as S T rows same = filter_agree (λ (row : RelationRow). outside S row.first.0) (λ row. outside T row.first.0) (λ row. ap not (same row.first.0)) rows

module _ (v : Related) (tied : AreTied v) (known : AreBelow v.siblings.tags v.siblings.rows) (also : AreBelow v.siblings.tags v.parents.rows) (a b : ℕ)
    (lt_a : a < v.siblings.tags) (lt_b : b < v.siblings.tags) where
  abbrev T : ℕ → Bool
  T = is_in_two v.siblings a b

  closed-before : IsClosed T v.siblings.rows × IsClosed T v.parents.rows
  closed-before =
      subst (λ ties. IsClosed (is_of_two v.siblings.rows ties a b) v.siblings.rows × IsClosed (is_of_two v.siblings.rows ties a b) v.parents.rows) (sym tied.ties)
      (two-closed v.siblings.rows v.parents.rows a b)

  first-in : T a ≡ true
  first-in = rw (eq-eqb (label_in v.siblings a) (label_in v.siblings a) refl) refl

  second-in : T b ≡ true
  second-in = rw (eq-eqb (label_in v.siblings b) (label_in v.siblings b) refl) (or-true (label_in v.siblings b == label_in v.siblings a))
    where
      or-true : (x : Bool) → (x || true) ≡ true
      or-true true = refl
      or-true false = refl

  within : (new : Related) → IsClosed T new.siblings.rows → IsClosed T new.parents.rows → rows_within (outside T) new.siblings.rows ≡ rows_within (outside T) v.siblings.rows
      → rows_within (outside T) new.parents.rows ≡ rows_within (outside T) v.parents.rows → new.siblings.orders ≡ v.siblings.orders → new.parents.orders ≡ v.parents.orders
      → IsWithin (tags_of_two v.siblings a b) v new
  within new siblings parents others also_others sibling_orders parent_orders =
      let S : ℕ → Bool = has (tags_of_two v.siblings a b) in
      let same : (t : ℕ) → S t ≡ T t = has-two v tied known also a b lt_a lt_b in
      record {
        different = picked-different T v.siblings.tags;
        before = record { siblings = closed-as S T v.siblings.rows same closed-before.0; parents = closed-as S T v.parents.rows same closed-before.1 };
        after = record { siblings = closed-as S T new.siblings.rows same siblings; parents = closed-as S T new.parents.rows same parents };
        siblings = outside-as S T new.siblings.rows same ∙ others ∙ sym (outside-as S T v.siblings.rows same);
        parents = outside-as S T new.parents.rows same ∙ also_others ∙ sym (outside-as S T v.parents.rows same);
        sibling_orders = sibling_orders;
        parent_orders = parent_orders;
      }

  -- a plan whose parts come to these
  planned-by : (plan : RelationPlan) (w : Known) (q : Kept) → plan.touched.items ≡ tags_of_two v.siblings a b → chained plan.siblings v.siblings ≡ w → planned plan.parents v.parents ≡ q
      → ForSome plan.siblings (λ p. IsSiblingPlanFor p v.siblings) → ForSome plan.parents (λ p. IsParentPlanFor p v.parents)
      → AreTied (record { siblings = w; parents = q }) → IsWithin (tags_of_two v.siblings a b) v (record { siblings = w; parents = q }) → IsPlanFor plan v
  planned-by plan w q touched chains parents sibling_fits parent_fits tied_after within_after = record {
    siblings = sibling_fits;
    parents = parent_fits;
    known = (known, also);
    before = tied;
    tied =
        subst (λ (x : Known). AreTied (record { siblings = x; parents = planned plan.parents v.parents })) (sym chains)
        (subst (λ (y : Kept). AreTied (record { siblings = w; parents = y })) (sym parents) tied_after);
    within =
        subst (λ tags. IsWithin tags v (record { siblings = chained plan.siblings v.siblings; parents = planned plan.parents v.parents })) (sym touched)
        (subst (λ (x : Known). IsWithin (tags_of_two v.siblings a b) v (record { siblings = x; parents = planned plan.parents v.parents })) (sym chains)
        (subst (λ (y : Kept). IsWithin (tags_of_two v.siblings a b) v (record { siblings = w; parents = y })) (sym parents) within_after));
  }

  pub sibling-planned : (plan : RelationPlan) (row : RelationRow) → row.first.0 ≡ a → row.second.0 ≡ b → plan.touched.items ≡ tags_of_two v.siblings a b
      → chained plan.siblings v.siblings ≡ record v.siblings { rows = v.siblings.rows ++ row ∷ [] } → planned plan.parents v.parents ≡ v.parents
      → ForSome plan.siblings (λ p. IsSiblingPlanFor p v.siblings) → ForSome plan.parents (λ p. IsParentPlanFor p v.parents) → IsPlanFor plan v
  sibling-planned plan row is_a is_b touched chains parents sibling_fits parent_fits =
      let w : Known = record v.siblings { rows = v.siblings.rows ++ row ∷ [] } in
      let here : T row.first.0 ≡ true = ap T is_a ∙ first-in in
      let there : T row.second.0 ≡ true = ap T is_b ∙ second-in in
      planned-by plan w v.parents touched chains parents sibling_fits parent_fits (record { ties = tied.ties; tags = tied.tags; services = tied.services })
      (within (record { siblings = w; parents = v.parents }) (closed-added T v.siblings.rows row closed-before.0 (here ∙ sym there)) closed-before.1 (outside-added T v.siblings.rows row here) refl refl refl)

  pub parent-planned : (plan : RelationPlan) (row : RelationRow) → row.first.0 ≡ a → row.second.0 ≡ b → plan.touched.items ≡ tags_of_two v.siblings a b
      → chained plan.siblings v.siblings ≡ record v.siblings { ties = v.siblings.ties ++ (a, b) ∷ [] } → planned plan.parents v.parents ≡ record v.parents { rows = v.parents.rows ++ row ∷ [] }
      → ForSome plan.siblings (λ p. IsSiblingPlanFor p v.siblings) → ForSome plan.parents (λ p. IsParentPlanFor p v.parents) → IsPlanFor plan v
  parent-planned plan row is_a is_b touched chains parents sibling_fits parent_fits =
      let w : Known = record v.siblings { ties = v.siblings.ties ++ (a, b) ∷ [] } in
      let q : Kept = record v.parents { rows = v.parents.rows ++ row ∷ [] } in
      let here : T row.first.0 ≡ true = ap T is_a ∙ first-in in
      let there : T row.second.0 ≡ true = ap T is_b ∙ second-in in
      let pair : (a, b) ≡ pair_of row = λ i. (sym is_a i, sym is_b i) in
      planned-by plan w q touched chains parents sibling_fits parent_fits
      (record { ties = ap (λ l. l ++ (a, b) ∷ []) tied.ties ∙ ap (λ p. map pair_of v.parents.rows ++ p ∷ []) pair ∙ sym (map-append pair_of v.parents.rows (row ∷ [])); tags = tied.tags; services = tied.services })
      (within (record { siblings = w; parents = q }) closed-before.0 (closed-added T v.parents.rows row closed-before.1 (here ∙ sym there)) refl (outside-added T v.parents.rows row here) refl refl)

  pub no-sibling-planned : (plan : RelationPlan) (n : ℕ) → (n < length v.siblings.rows → (get_or v.siblings.rows n no_row).first.0 ≡ a) → plan.touched.items ≡ tags_of_two v.siblings a b
      → chained plan.siblings v.siblings ≡ record v.siblings { rows = removed_at n v.siblings.rows } → planned plan.parents v.parents ≡ v.parents
      → ForSome plan.siblings (λ p. IsSiblingPlanFor p v.siblings) → ForSome plan.parents (λ p. IsParentPlanFor p v.parents) → IsPlanFor plan v
  no-sibling-planned plan n is_a touched chains parents sibling_fits parent_fits =
      let w : Known = record v.siblings { rows = removed_at n v.siblings.rows } in
      planned-by plan w v.parents touched chains parents sibling_fits parent_fits (record { ties = tied.ties; tags = tied.tags; services = tied.services })
      (within (record { siblings = w; parents = v.parents }) (closed-removed T n v.siblings.rows closed-before.0) closed-before.1
      (outside-removed T n v.siblings.rows (λ lt. ap T (is_a lt) ∙ first-in)) refl refl refl)

  pub no-parent-planned : (plan : RelationPlan) (n : ℕ) → (n < length v.parents.rows → (get_or v.parents.rows n no_row).first.0 ≡ a) → plan.touched.items ≡ tags_of_two v.siblings a b
      → chained plan.siblings v.siblings ≡ v.siblings → planned plan.parents v.parents ≡ record v.parents { rows = removed_at n v.parents.rows }
      → ForSome plan.siblings (λ p. IsSiblingPlanFor p v.siblings) → ForSome plan.parents (λ p. IsParentPlanFor p v.parents) → IsPlanFor plan v
  no-parent-planned plan n is_a touched chains parents sibling_fits parent_fits =
      let q : Kept = record v.parents { rows = removed_at n v.parents.rows } in
      planned-by plan v.siblings q touched chains parents sibling_fits parent_fits
      (record { ties = tied.ties ∙ sym (pairs-removed n v.parents.rows); tags = tied.tags; services = tied.services })
      (within (record { siblings = v.siblings; parents = q }) closed-before.0 (closed-removed T n v.parents.rows closed-before.1) refl
      (outside-removed T n v.parents.rows (λ lt. ap T (is_a lt) ∙ first-in)) refl refl)

-- ---- the same, where the siblings made room first

module _ (o : Related) (tied : AreTied o) (known : AreBelow o.siblings.tags o.siblings.rows) (also : AreBelow o.siblings.tags o.parents.rows) (w : Known) (same : AreSameSiblings w o.siblings) where
  abbrev v : Related
  v = record { siblings = w; parents = o.parents }

  tied-now : AreTied v
  tied-now = record { ties = same.ties ∙ tied.ties; tags = same.tags ∙ tied.tags; services = rw same.orders tied.services }

  known-now : AreBelow w.tags w.rows
  known-now = rw (same.tags, same.rows) known

  also-now : AreBelow w.tags o.parents.rows
  also-now = rw same.tags also

  now : (t : ℕ) → t < o.siblings.tags → t < w.tags
  now t lt = rw same.tags lt

  some-fits : (p : SiblingPlan) → IsSiblingPlanFor p w → ForSome (Some p) (λ p. IsSiblingPlanFor p w)
  some-fits p fits x is = let one : p ≡ x = cc is in subst (λ q. IsSiblingPlanFor q w) one fits

  parent-fits : (p : ParentPlan) → IsParentPlanFor p o.parents → ForSome (Some p) (λ p. IsParentPlanFor p o.parents)
  parent-fits p fits x is = let one : p ≡ x = cc is in subst (λ q. IsParentPlanFor q o.parents) one fits

  pub sibling-fits : (plan : RelationPlan) (p : SiblingPlan) (row : RelationRow) → plan.siblings ≡ Some p → plan.parents ≡ None → row.first.0 < o.siblings.tags → row.second.0 < o.siblings.tags
      → plan.touched.items ≡ tags_of_two o.siblings row.first.0 row.second.0 → IsSiblingPlanFor p w → siblings_after p w ≡ record w { rows = o.siblings.rows ++ row ∷ [] } → IsPlanFor plan v
  sibling-fits plan p row is none lt_a lt_b touched fits after_is =
      sibling-planned v tied-now known-now also-now row.first.0 row.second.0 (now row.first.0 lt_a) (now row.second.0 lt_b) plan row refl refl
      (touched ∙ two-same w o.siblings same row.first.0 row.second.0)
      (ap (λ x. chained x w) is ∙ after_is ∙ ap (λ (rows : List RelationRow). record w { rows = rows ++ row ∷ [] }) (sym same.rows)) (ap (λ x. planned x o.parents) none)
      (subst (λ x. ForSome x (λ p. IsSiblingPlanFor p w)) (sym is) (some-fits p fits)) (subst (λ x. ForSome x (λ p. IsParentPlanFor p o.parents)) (sym none) (λ x e. absurd (cc e)))

  pub no-sibling-fits : (plan : RelationPlan) (p : SiblingPlan) (s a : ℕ) → plan.siblings ≡ Some p → plan.parents ≡ None → a < o.siblings.tags
      → plan.touched.items ≡ tags_of_two o.siblings a a → IsSiblingPlanFor p w → siblings_after p w ≡ record w { rows = removed_at (standing_place s a o.siblings.rows) o.siblings.rows } → IsPlanFor plan v
  no-sibling-fits plan p s a is none lt touched fits after_is =
      no-sibling-planned v tied-now known-now also-now a a (now a lt) (now a lt) plan (standing_place s a w.rows) (standing-first s a w.rows)
      (touched ∙ two-same w o.siblings same a a)
      (ap (λ x. chained x w) is ∙ after_is ∙ ap (λ (rows : List RelationRow). record w { rows = removed_at (standing_place s a rows) rows }) (sym same.rows)) (ap (λ x. planned x o.parents) none)
      (subst (λ x. ForSome x (λ p. IsSiblingPlanFor p w)) (sym is) (some-fits p fits)) (subst (λ x. ForSome x (λ p. IsParentPlanFor p o.parents)) (sym none) (λ x e. absurd (cc e)))

-- both made room first
pub parent-fits-both : (o : Related) → AreTied o → AreBelow o.siblings.tags o.siblings.rows → AreBelow o.siblings.tags o.parents.rows → (w : Known) → AreSameSiblings w o.siblings → (x : Kept)
    → x ≡ record o.parents { row_room = x.row_room } → (plan : RelationPlan) (p : SiblingPlan) (q : ParentPlan) (row : RelationRow) → plan.siblings ≡ Some p → plan.parents ≡ Some q
    → row.first.0 < o.siblings.tags → row.second.0 < o.siblings.tags → plan.touched.items ≡ tags_of_two o.siblings row.first.0 row.second.0 → IsSiblingPlanFor p w
    → siblings_after p w ≡ record w { ties = o.siblings.ties ++ (row.first.0, row.second.0) ∷ [] } → IsParentPlanFor q x → parents_after q x ≡ record x { rows = o.parents.rows ++ row ∷ [] }
    → IsPlanFor plan (record { siblings = w; parents = x })
parent-fits-both o tied known also w same x again plan p q row is is_parent lt_a lt_b touched fits after_is parent_fits parent_after =
    let rows : x.rows ≡ o.parents.rows = ap (λ (k : Kept). k.rows) again in
    let orders : x.orders ≡ o.parents.orders = ap (λ (k : Kept). k.orders) again in
    let tags : x.tags ≡ o.parents.tags = ap (λ (k : Kept). k.tags) again in
    let v : Related = record { siblings = w; parents = x } in
    let tied_now : AreTied v = record { ties = same.ties ∙ tied.ties ∙ ap (map pair_of) (sym rows); tags = same.tags ∙ tied.tags ∙ sym tags; services = rw (same.orders, orders) tied.services } in
    let known_now : AreBelow w.tags w.rows = rw (same.tags, same.rows) known in
    let also_now : AreBelow w.tags x.rows = rw (same.tags, rows) also in
    parent-planned v tied_now known_now also_now row.first.0 row.second.0 (rw same.tags lt_a) (rw same.tags lt_b) plan row refl refl
    (touched ∙ two-same w o.siblings same row.first.0 row.second.0)
    (ap (λ y. chained y w) is ∙ after_is ∙ ap (λ ties. record w { ties = ties ++ (row.first.0, row.second.0) ∷ [] }) (sym same.ties))
    (ap (λ y. planned y x) is_parent ∙ parent_after ∙ ap (λ (l : List RelationRow). record x { rows = l ++ row ∷ [] }) (sym rows))
    (subst (λ y. ForSome y (λ p. IsSiblingPlanFor p w)) (sym is) (some-of p w fits)) (subst (λ y. ForSome y (λ p. IsParentPlanFor p x)) (sym is_parent) (parent-of q x parent_fits))
  where
    some-of : (p : SiblingPlan) (w : Known) → IsSiblingPlanFor p w → ForSome (Some p) (λ p. IsSiblingPlanFor p w)
    some-of p w fits y is = let one : p ≡ y = cc is in subst (λ q. IsSiblingPlanFor q w) one fits

    parent-of : (q : ParentPlan) (x : Kept) → IsParentPlanFor q x → ForSome (Some q) (λ p. IsParentPlanFor p x)
    parent-of q x fits y is = let one : q ≡ y = cc is in subst (λ p. IsParentPlanFor p x) one fits

pub no-parent-fits : (o : Related) → AreTied o → AreBelow o.siblings.tags o.siblings.rows → AreBelow o.siblings.tags o.parents.rows → (plan : RelationPlan) (q : ParentPlan) (s child parent : ℕ)
    → plan.siblings ≡ None → plan.parents ≡ Some q → child < o.siblings.tags → plan.touched.items ≡ tags_of_two o.siblings child child → IsParentPlanFor q o.parents
    → parents_after q o.parents ≡ record o.parents { rows = removed_at (first_place (is_pair s child parent) o.parents.rows) o.parents.rows } → IsPlanFor plan o
no-parent-fits o tied known also plan q s child parent none is lt touched fits after_is =
    no-parent-planned o tied known also child child lt lt plan (first_place (is_pair s child parent) o.parents.rows) (pair-first s child parent o.parents.rows) touched
    (ap (λ y. chained y o.siblings) none) (ap (λ y. planned y o.parents) is ∙ after_is)
    (subst (λ y. ForSome y (λ p. IsSiblingPlanFor p o.siblings)) (sym none) (λ y e. absurd (cc e)))
    (subst (λ y. ForSome y (λ p. IsParentPlanFor p o.parents)) (sym is) (λ y e. let one : q ≡ y = cc e in subst (λ p. IsParentPlanFor p o.parents) one fits))

-- the rows of a child are among those of its cluster
pub child-rows : (v : Related) (child : ℕ) → length (rows_of v.parents.rows child) ≤ length (rows_within (is_beside v.siblings.rows v.parents.rows child child) v.parents.rows)
child-rows v child =
    rows-kept (λ t. t == child) (is_beside v.siblings.rows v.parents.rows child child) v.parents.rows
    (λ t is. ap (is_beside v.siblings.rows v.parents.rows child child) (eqb-true t child is)
    ∙ rw (eq-eqb (label_of v.siblings.rows (map pair_of v.parents.rows) child) (label_of v.siblings.rows (map pair_of v.parents.rows) child) refl) refl)

-- a removal of a parent pair reads a few rows for each of the cluster
pub removal-reads : (v : Related) (child start between now : ℕ) → AreTied v → between ≤ start + 2 * (length (tags_of_two v.siblings child child) + 1) → now ≤ between + (2 + 2 * length (rows_of v.parents.rows child))
    → now ≤ start + 7 * cluster_work v.siblings.rows v.parents.rows v.siblings.tags child child
removal-reads v child start between now tied first later =
    let tags : length (tags_of_two v.siblings child child) ≡ cluster_tags v.siblings.rows v.parents.rows v.siblings.tags child child =
    ap (λ ties. length (filter (is_of_two v.siblings.rows ties child child) (range_with_len 0 v.siblings.tags))) tied.ties in
    let rows = child-rows v child in
    let work = some-work (cluster_rows v.siblings.rows v.parents.rows child child) (cluster_tags v.siblings.rows v.parents.rows v.siblings.tags child child) in
    omega (arith, first, later, tags, rows, work)

-- ---- the cluster of one tag

module _ (o : Related) (tied : AreTied o) (known : AreBelow o.siblings.tags o.siblings.rows) (also : AreBelow o.siblings.tags o.parents.rows) (a : ℕ) (lt : a < o.siblings.tags) where
  abbrev S : ℕ → Bool
  S = has (tags_of_two o.siblings a a)

  same-one : (t : ℕ) → S t ≡ is_in_two o.siblings a a t
  same-one = has-two o tied known also a a lt lt

  pub cluster-closed : (s : ℕ) → IsClosedFor S (relations_at o s)
  cluster-closed s =
      let c = closed-before o tied known also a a lt lt in
      (closed-as S (is_in_two o.siblings a a) o.siblings.rows same-one c.0, closed-as S (is_in_two o.siblings a a) o.parents.rows same-one c.1)

  pub cluster-has : S a ≡ true
  cluster-has = same-one a ∙ first-in o tied known also a a lt lt

  pub cluster-reads : (start between now : ℕ) → between ≤ start + 2 * (length (tags_of_two o.siblings a a) + 1) → now ≤ between + (length (tags_of_two o.siblings a a) + 2 * length (rows_within S o.parents.rows))
      → now ≤ start + 4 * cluster_work o.siblings.rows o.parents.rows o.siblings.tags a a
  cluster-reads start between now first later =
      let tags : length (tags_of_two o.siblings a a) ≡ cluster_tags o.siblings.rows o.parents.rows o.siblings.tags a a =
      ap (λ ties. length (filter (is_of_two o.siblings.rows ties a a) (range_with_len 0 o.siblings.tags))) tied.ties in
      let is : (t : ℕ) → S t ≡ is_beside o.siblings.rows o.parents.rows a a t = λ t. same-one t ∙ ap (λ ties. is_of_two o.siblings.rows ties a a t) tied.ties in
      let rows : length (rows_within S o.parents.rows) ≡ length (rows_within (is_beside o.siblings.rows o.parents.rows a a) o.parents.rows) =
      ap length (filter_agree (λ (row : RelationRow). S row.first.0) (λ row. is_beside o.siblings.rows o.parents.rows a a row.first.0) (λ row. is row.first.0) o.parents.rows) in
      let work = some-work (cluster_rows o.siblings.rows o.parents.rows a a) (cluster_tags o.siblings.rows o.parents.rows o.siblings.tags a a) in
      omega (arith, first, later, tags, rows, work)

-- a look at the rows of a child reads a few for each of the cluster
pub look-reads : (v : Related) (child start now : ℕ) → now ≤ start + (1 + 2 * length (rows_of v.parents.rows child)) → now ≤ start + 2 * cluster_work v.siblings.rows v.parents.rows v.siblings.tags child child
look-reads v child start now reads =
    let rows = child-rows v child in
    let work = some-work (cluster_rows v.siblings.rows v.parents.rows child child) (cluster_tags v.siblings.rows v.parents.rows v.siblings.tags child child) in
    omega (arith, reads, rows, work)

-- What a plan leads to.
use Rattle.std.proofs.Common.{◌≡◌, ◌≢◌, ◌⊎◌, ◌∙◌, ◌<◌, ◌+◌, ◌-◌, ◌==◌, ℕ, Bool, true, false, not, Decides, List, [], Option, Some, None, length, take, get_or, refl, sym, ap, subst, inl, inr, arith}
use Rattle.std.specs.BTreeMap.{insert_entry}
use Rattle.std.specs.List.{Contains, list_any}
use Rattle.std.specs.Option.{is_some}
use Rattle.std.specs.List.Sorted.{IsStrictlySortedBy}
use Rattle.std.proofs.lemmas.Bool.Decides.{Decides-by_or, Decides-eqb, same_from_decides}
use Rattle.std.proofs.lemmas.List.{get_or-take, get_or_default, length-take, take_all}
use Rattle.std.proofs.lemmas.List.Elements.{Decides-contains}
use Rattle.media_types.specs.declared.numbers.FileNo.{FileNo}
use Rattle.spare_tables.specs.EditLaws.{same_rows, sorted-insert_entry, value_put, value_put_other}
use Rattle.spare_tables.specs.Keys.{value_of}
use Rattle.spare_tables.specs.Order.{pair_cmp, pair_exact}
use Rattle.spare_tables.specs.PairLaws.{pair_order}
use Rattle.relation_groups.specs.Relations.{Relations}
use Rattle.potential_pairs.specs.Keeping.{AreTallyRows}
use Rattle.potential_pairs.specs.Levels.{Ascend, one_at}
use Rattle.potential_pairs.specs.Naming.{AreCounted, count_named, live_name, weight}
use Rattle.potential_pairs.specs.Planning.{AreFound, Found, IsFound, PlanView, after, planned_count, with_changes, with_found, with_live}
use Rattle.potential_pairs.specs.Potential.{AreOf, PairsView, Row, is_live}
use Rattle.potential_pairs.specs.Tallies.{TallyRow, count_at, if_any}
use Rattle.potential_pairs.specs.declared.tally.Tally.{Tally}
use Rattle.potential_pairs.proofs.Between.{counted-of, of-counted}
use Rattle.potential_pairs.proofs.Counts.{count-put, weight-other, weight-same}
use Rattle.potential_pairs.proofs.Least.{count-if_any}
use Rattle.potential_pairs.proofs.TallyRows.{with-tallies}
use Rattle.potential_pairs.proofs.Rows.{apart-from_ascend, changed, length-put_new, name_in, put-same, same_name, sorted-with_changes, value-with_changes, was_found}

-- an empty plan leads nowhere
pub after-nothing : (plan : PlanView) (rows : PairsView) → plan.near ≡ [] → plan.tallies ≡ [] → plan.live ≡ None → after plan rows ≡ rows
unfolding after
after-nothing plan rows near tallies live =
    ap (λ (p : PlanView). after p rows) (λ i. record { near = near i; tallies = tallies i; live = live i })

pub after-live : (plan : PlanView) (rows : PairsView) (live : Option (FileNo × Bool)) → plan.live ≡ live → (after plan rows).gone ≡ with_live live rows.gone
unfolding after
after-live plan rows live same = ap (λ l. with_live l rows.gone) same

pub after-near : (plan : PlanView) (rows : PairsView) → plan.near ≡ [] → (after plan rows).near ≡ rows.near
unfolding after
after-near plan rows none = ap (λ (list : List Row). with_changes Some list rows.near) none

-- ---- near pairs
module _ (rows : PairsView) (sorted : Ascend rows.near) where
  pub after-near_sorted : (plan : PlanView) → Ascend (after plan rows).near
  unfolding after
  after-near_sorted plan = sorted-with_changes Some plan.near rows.near sorted

  -- one more near pair
  pub near-added : (old new : PlanView) (files : ℕ × ℕ) (e : ℕ) → Ascend old.near → new.near ≡ insert_entry pair_cmp old.near files e
      → (after new rows).near ≡ insert_entry pair_cmp (after old rows).near files e
  unfolding after
  near-added old new files e planned more =
      let more_sorted : Ascend (insert_entry pair_cmp old.near files e) = sorted-insert_entry pair_order old.near files e planned in
      ap (λ (list : List Row). with_changes Some list rows.near) more
      ∙ same_rows pair_order pair_exact (with_changes Some (insert_entry pair_cmp old.near files e) rows.near) (insert_entry pair_cmp (with_changes Some old.near rows.near) files e)
      (sorted-with_changes Some (insert_entry pair_cmp old.near files e) rows.near sorted)
      (sorted-insert_entry pair_order (with_changes Some old.near rows.near) files e (sorted-with_changes Some old.near rows.near sorted))
      (λ q. value-with_changes Some (insert_entry pair_cmp old.near files e) rows.near q (apart-from_ascend (insert_entry pair_cmp old.near files e) more_sorted) sorted ∙ elim (same_name q files) [
        | inl same ↦
            ap (λ found. changed Some found (value_of pair_cmp rows.near q)) (ap (value_of pair_cmp (insert_entry pair_cmp old.near files e)) same ∙ value_put pair_order files e old.near)
            ∙ sym (ap (value_of pair_cmp (insert_entry pair_cmp (with_changes Some old.near rows.near) files e)) same ∙ value_put pair_order files e (with_changes Some old.near rows.near))
        | inr other ↦
            ap (λ found. changed Some found (value_of pair_cmp rows.near q)) (value_put_other pair_order pair_exact q files e old.near other)
            ∙ sym (value_put_other pair_order pair_exact q files e (with_changes Some old.near rows.near) other ∙ value-with_changes Some old.near rows.near q (apart-from_ascend old.near planned) sorted)
      ])

  -- which pairs are near after it
  pub near-value : (plan : PlanView) (q : ℕ × ℕ) → Ascend plan.near → value_of pair_cmp (after plan rows).near q ≡ changed Some (value_of pair_cmp plan.near q) (value_of pair_cmp rows.near q)
  unfolding after
  near-value plan q planned = value-with_changes Some plan.near rows.near q (apart-from_ascend plan.near planned) sorted

-- a found pair that is near once some are noted has the distance that was found
pub found-same : (n : ℕ) (near : List Row) (found : List Found) (m i : ℕ) (this : Found) → AreFound n near found → i < length found → this ≡ get_or found i this
    → (d : ℕ) → value_of pair_cmp (with_found (take m found) near) (name_in this) ≡ Some d → d ≡ this.2
found-same n near found m i this are within here d has = elim (was_found (take m found) near (name_in this) d has) [
  | inl before ↦
      let each : IsFound n near this = subst (IsFound n near) (sym here) (are.each i this within) in
      each.same d before
  | inr earlier ↦
      let k = earlier.0 in
      let inside : k < length found = omega (arith, earlier.1, length-take m found) in
      let lower : k < m = omega (arith, earlier.1, length-take m found) in
      let other = get_or found k this in
      let is : get_or (take m found) k this ≡ other = get_or-take m found k this lower in
      let name : name_in this ≡ name_in other = (earlier.2 this).0 ∙ ap name_in is in
      let distance : d ≡ other.2 = (earlier.2 this).1 ∙ ap (λ (f : Found). f.2) is in
      let alike = are.alike i this within k this inside in
      let first : this.0 ≡ other.0 = λ j. record { 0 = (name j).0 } in
      let second : this.1 ≡ other.1 = λ j. record { 0 = (name j).1 } in
      distance ∙ sym (ap (λ (f : Found). f.2) here ∙ alike (ap (λ (f : Found). f.0) (sym here) ∙ first) (ap (λ (f : Found). f.1) (sym here) ∙ second))
]

-- what was found can be found again
pub found-again : (n : ℕ) (near : List Row) (found : List Found) → AreFound n near found → AreFound n (with_found found near) found
found-again n near found are = record {
  each = λ i d within.
      let this = get_or found i d in
      let each : IsFound n near this = are.each i d within in
      let here : this ≡ get_or found i this = get_or_default found i d this within in
      record {
        lower = each.lower;
        there = each.there;
        shallow = each.shallow;
        same = λ e has.
            found-same n near found (length found) i this are within here e
            (ap (λ list. value_of pair_cmp (with_found list near) (name_in this)) (take_all (length found) found (omega arith)) ∙ has);
      };
  alike = are.alike;
}

-- ---- tallies
-- the count of a new tally, or else the old count
abbrev pub planned_by : Option Tally → ℕ → ℕ → ℕ
planned_by None old d = old
planned_by (Some tally) old d = get_or tally.counts d 0

-- what the tally of a name counts after a plan
pub planned_count-is : (plan : PlanView) (rows : PairsView) (name : ℕ × ℕ) (d : ℕ) → Ascend plan.tallies → Ascend rows.tallies
    → planned_count plan rows name d ≡ planned_by (value_of pair_cmp plan.tallies name) (count_at (value_of pair_cmp rows.tallies name) d) d
unfolding planned_count after
planned_count-is plan rows name d planned sorted =
    ap (λ found. count_at found d) (value-with_changes if_any plan.tallies rows.tallies name (apart-from_ascend plan.tallies planned) sorted)
    ∙ by (value_of pair_cmp plan.tallies name) where
      by : (new : Option Tally) → count_at (changed if_any new (value_of pair_cmp rows.tallies name)) d ≡ planned_by new (count_at (value_of pair_cmp rows.tallies name) d) d
      by None = refl
      by (Some tally) = count-if_any tally d

-- a tally that a plan sets counts for its name, and other names stay
module _ (old new : PlanView) (rows : PairsView) (name : ℕ × ℕ) (tally : Tally) (planned : Ascend old.tallies) (sorted : Ascend rows.tallies)
    (set : new.tallies ≡ insert_entry pair_cmp old.tallies name tally) where
  new_sorted : Ascend new.tallies
  new_sorted = subst (λ (list : List TallyRow). Ascend list) (sym set) (sorted-insert_entry pair_order old.tallies name tally planned)

  pub planned_count-here : (q : ℕ × ℕ) (d : ℕ) → q ≡ name → planned_count new rows q d ≡ get_or tally.counts d 0
  planned_count-here q d same =
      let found : value_of pair_cmp new.tallies q ≡ Some tally = (λ i. value_of pair_cmp (set i) (same i)) ∙ value_put pair_order name tally old.tallies in
      planned_count-is new rows q d new_sorted sorted ∙ ap (λ t. planned_by t (count_at (value_of pair_cmp rows.tallies q) d) d) found

  pub planned_count-there : (q : ℕ × ℕ) (d : ℕ) → q ≢ name → planned_count new rows q d ≡ planned_count old rows q d
  planned_count-there q d other =
      let found : value_of pair_cmp new.tallies q ≡ value_of pair_cmp old.tallies q = ap (λ list. value_of pair_cmp list q) set ∙ value_put_other pair_order pair_exact q name tally old.tallies other in
      planned_count-is new rows q d new_sorted sorted ∙ ap (λ t. planned_by t (count_at (value_of pair_cmp rows.tallies q) d) d) found ∙ sym (planned_count-is old rows q d planned sorted)

  -- one near pair more, or one less, makes the pair of the name
  pub planned_count-more : (e : ℕ) → ((d : ℕ) → get_or tally.counts d 0 ≡ planned_count old rows name d + one_at d (Some e))
      → (q : ℕ × ℕ) (d : ℕ) → planned_count new rows q d ≡ planned_count old rows q d + weight (Some name) e q d
  planned_count-more e counts q d = elim (same_name q name) [
    | inl same ↦
        let was : planned_count old rows q d ≡ planned_count old rows name d = ap (λ (n : ℕ × ℕ). planned_count old rows n d) same in
        omega (arith, planned_count-here q d same, counts d, was, weight-same name q e d same)
    | inr other ↦ omega (arith, planned_count-there q d other, weight-other name q e d other)
  ]

  pub planned_count-less : (e : ℕ) → ((d : ℕ) → get_or tally.counts d 0 ≡ planned_count old rows name d - one_at d (Some e))
      → (q : ℕ × ℕ) (d : ℕ) → planned_count new rows q d ≡ planned_count old rows q d - weight (Some name) e q d
  planned_count-less e counts q d = elim (same_name q name) [
    | inl same ↦
        let was : planned_count old rows q d ≡ planned_count old rows name d = ap (λ (n : ℕ × ℕ). planned_count old rows n d) same in
        omega (arith, planned_count-here q d same, counts d, was, weight-same name q e d same)
    | inr other ↦ omega (arith, planned_count-there q d other, weight-other name q e d other)
  ]

pub planned_count-kept : (old new : PlanView) (rows : PairsView) → new.tallies ≡ old.tallies → (q : ℕ × ℕ) (d : ℕ) → planned_count new rows q d ≡ planned_count old rows q d
unfolding planned_count after
planned_count-kept old new rows same q d = ap (λ list. count_at (value_of pair_cmp (with_changes if_any list rows.tallies) q) d) same

-- the tallies count the near pairs after a plan exactly where their counts are theirs
pub counted-after : (naming : ℕ × ℕ → Option (ℕ × ℕ)) (plan : PlanView) (rows : PairsView) → ((name : ℕ × ℕ) (d : ℕ) → planned_count plan rows name d ≡ count_named naming (after plan rows).near name d) → AreCounted naming (after plan rows)
unfolding AreCounted planned_count
counted-after naming plan rows counts = counts

pub counts-after : (naming : ℕ × ℕ → Option (ℕ × ℕ)) (plan : PlanView) (rows : PairsView) → AreCounted naming (after plan rows) → (name : ℕ × ℕ) (d : ℕ) → planned_count plan rows name d ≡ count_named naming (after plan rows).near name d
unfolding AreCounted planned_count
counts-after naming plan rows counted = counted

-- a near pair that wasn't there makes the pair of its name
pub counted-added : (naming : ℕ × ℕ → Option (ℕ × ℕ)) (rows : PairsView) (old new : PlanView) (files : ℕ × ℕ) (e : ℕ) → Ascend rows.near → Ascend old.near → new.near ≡ insert_entry pair_cmp old.near files e
    → value_of pair_cmp (after old rows).near files ≡ None → ((q : ℕ × ℕ) (d : ℕ) → planned_count new rows q d ≡ planned_count old rows q d + weight (naming files) e q d)
    → AreCounted naming (after old rows) → AreCounted naming (after new rows)
counted-added naming rows old new files e sorted planned more none counts counted = counted-after naming new rows (λ q d.
    let near = ap (λ list. count_named naming list q d) (near-added rows sorted old new files e planned more) in
    omega (arith, counts q d, counts-after naming old rows counted q d, near, count-put q d naming (after old rows).near files e none))

-- a pair that is near already changes nothing
pub near-known : (rows : PairsView) (plan : PlanView) (files : ℕ × ℕ) (e : ℕ) → Ascend rows.near → Ascend plan.near
    → (is_some (value_of pair_cmp rows.near files) ≡ true) ⊎ (is_some (value_of pair_cmp plan.near files) ≡ true)
    → ((d : ℕ) → value_of pair_cmp (after plan rows).near files ≡ Some d → d ≡ e) → (after plan rows).near ≡ insert_entry pair_cmp (after plan rows).near files e
near-known rows plan files e sorted planned known same =
    let found = some_value (changed Some (value_of pair_cmp plan.near files) (value_of pair_cmp rows.near files)) (by (value_of pair_cmp plan.near files) (value_of pair_cmp rows.near files) known) in
    let has = near-value rows sorted plan files planned ∙ found.1 in
    sym (put-same (after plan rows).near files e (after-near_sorted rows sorted plan) (has ∙ ap Some (same found.0 has))) where
      by : (new old : Option ℕ) → (is_some old ≡ true) ⊎ (is_some new ≡ true) → is_some (changed Some new old) ≡ true
      by None old (inl has) = has
      by None old (inr has) = cc
      by (Some v) old has = refl

      some_value : (found : Option ℕ) → is_some found ≡ true → (v : ℕ) × (found ≡ Some v)
      some_value None is = cc
      some_value (Some v) is = (v, refl)

-- a pair that is in neither isn't near yet
pub near-new : (rows : PairsView) (plan : PlanView) (files : ℕ × ℕ) → Ascend rows.near → Ascend plan.near
    → is_some (value_of pair_cmp rows.near files) ≡ false → is_some (value_of pair_cmp plan.near files) ≡ false → value_of pair_cmp (after plan rows).near files ≡ None
near-new rows plan files sorted planned old new = near-value rows sorted plan files planned ∙ by (value_of pair_cmp plan.near files) (value_of pair_cmp rows.near files) new old where
  by : (added had : Option ℕ) → is_some added ≡ false → is_some had ≡ false → changed Some added had ≡ None
  by None None unplanned never = refl
  by None (Some v) unplanned never = cc
  by (Some v) had unplanned never = cc

is_none : {V : Type 0} (found : Option V) → is_some found ≡ false → found ≡ None
is_none None none = refl
is_none (Some v) none = cc

pub length-near_added : (rows : PairsView) (old new : PlanView) (files : ℕ × ℕ) (e : ℕ) → Ascend rows.near → Ascend old.near → new.near ≡ insert_entry pair_cmp old.near files e
    → is_some (value_of pair_cmp rows.near files) ≡ false → is_some (value_of pair_cmp old.near files) ≡ false
    → length (after new rows).near + length old.near ≡ length (after old rows).near + length new.near
length-near_added rows old new files e sorted planned more never unplanned =
    let none = near-new rows old files sorted planned never unplanned in
    omega (arith, ap length (near-added rows sorted old new files e planned more), length-put_new (after old rows).near files e none, ap length more, length-put_new old.near files e (is_none (value_of pair_cmp old.near files) unplanned))

-- the tallies and the least distances stay in step
pub after-kept : (plan : PlanView) (rows : PairsView) → AreTallyRows rows.tallies rows.pairs → AreTallyRows (after plan rows).tallies (after plan rows).pairs
unfolding after
after-kept plan rows kept = with-tallies plan.tallies rows.tallies rows.pairs kept

-- the pairs after a plan are those of the groups where the tallies count the near pairs by the names of the files that are live then
pub of-after : (R : Relations) (plan : PlanView) (rows : PairsView) (live : Option (FileNo × Bool)) → plan.live ≡ live → AreTallyRows rows.tallies rows.pairs
    → AreCounted (live_name R (with_live live rows.gone)) (after plan rows) → AreOf R (after plan rows)
of-after R plan rows live is kept counted =
    of-counted R (after plan rows) (after-kept plan rows kept) (subst (λ gone. AreCounted (live_name R gone) (after plan rows)) (sym (after-live plan rows live is)) counted)

-- what an empty plan counts
pub counts-nothing : (R : Relations) (plan : PlanView) (rows : PairsView) → plan.near ≡ [] → plan.tallies ≡ [] → plan.live ≡ None → AreOf R rows
    → (name : ℕ × ℕ) (d : ℕ) → planned_count plan rows name d ≡ count_named (live_name R rows.gone) rows.near name d
counts-nothing R plan rows near tallies live of name d =
    let same = after-nothing plan rows near tallies live in
    let counted = subst (λ (r : PairsView). AreCounted (live_name R rows.gone) r) (sym same) (counted-of R rows of) in
    counts-after (live_name R rows.gone) plan rows counted name d ∙ ap (λ (r : PairsView). count_named (live_name R rows.gone) r.near name d) same

-- ---- deleted files
not-not : (b : Bool) → not (not b) ≡ b
not-not true = refl
not-not false = refl

pub gone_if_there : (gone : List ℕ) (f : ℕ) (answer : Bool) → Decides answer (Contains gone f) → answer ≡ not (is_live gone f)
gone_if_there gone f answer told =
    let found = Decides-contains gone f (list_any (λ g. g == f) gone) (Decides-by_or (λ g. g == f) (λ g. g ≡ f) (list_any (λ g. g == f)) (λ g. Decides-eqb g f) refl (λ _ _. refl) gone) in
    same_from_decides answer (list_any (λ g. g == f) gone) told found ∙ sym (not-not (list_any (λ g. g == f) gone))

-- ---- no pairs at all
pub of-empty : (R : Relations) (rows : PairsView) → rows.near ≡ [] → rows.pairs ≡ [] → rows.tallies ≡ [] → AreOf R rows
unfolding AreCounted IsStrictlySortedBy
of-empty R rows near pairs tallies =
    let of : AreOf R (record { near = []; gone = rows.gone; pairs = []; tallies = [] }) = of-counted R (record { near = []; gone = rows.gone; pairs = []; tallies = [] }) no_rows (λ name d. refl) in
    subst (AreOf R) (sym (λ i. record { near = near i; gone = rows.gone; pairs = pairs i; tallies = tallies i })) of where
      no_rows : AreTallyRows [] []
      no_rows = record { sorted = tt; pairs_sorted = tt; some = λ name tally has. cc; least = λ name. refl }

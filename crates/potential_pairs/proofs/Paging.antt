-- The rows that come after a place, and the least of their names.
use Rattle.std.proofs.Common.{◌≡◌, ◌≢◌, ◌∙◌, ◌≤◌, ◌<◌, ◌+◌, ◌&&◌, ◌||◌, ◌==◌, nat_le, nat_lt, ℕ, Bool, true, false, cond, List, [], ◌∷◌, ◌++◌, length, get_or, filter, take, drop, Option, Some, None, refl, sym, ap, subst, inl, inr, arith}
use Rattle.std.specs.BTreeMap.{is_at}
use Rattle.std.specs.List.{AllByRecursion}
use Rattle.std.specs.List.Sorted.{IsStrictlySortedBy}
use Rattle.std.specs.Map.{keys_of}
use Rattle.std.specs.Option.{IfSome}
use Rattle.std.specs.Ordering.{is_eq}
use Rattle.std.specs.declared.cmp.Ordering.TheVariants.{Less}
use Rattle.std.proofs.Math.ListN.{set}
use Rattle.std.proofs.lemmas.Bool.{and_from, and_parts, and_right, cases_eq, cases_lt, false_from_ne_true}
use Rattle.std.proofs.lemmas.Bool.Decides.{nat_tests}
use Rattle.std.proofs.lemmas.Cmp.{tied_itself}
use Rattle.std.proofs.lemmas.List.{drop_all, drop_more, get_or-set_other, get_or-set_same, take_all, take_more}
use Rattle.std.proofs.lemmas.Map.Entries.{lookup_head}
use Rattle.std.proofs.lemmas.Map.Keys.{sorted_tail}
use Rattle.media_types.specs.declared.limits.TheConstants.{MAX_DISTANCE}
use Rattle.media_types.specs.declared.numbers.FileNo.{FileNo}
use Rattle.spare_tables.specs.KeyLaws.{by_ordering}
use Rattle.spare_tables.specs.Keys.{value_of}
use Rattle.spare_tables.specs.Order.{pair_cmp, pair_exact}
use Rattle.spare_tables.specs.PairLaws.{pair_greater, pair_less, pair_order}
use Rattle.spare_tables.specs.Pairs.{IsBefore}
use Rattle.potential_pairs.specs.Levels.{AreHeads, Ascend, IsFirstBehind, IsHead, IsLeastHead}
use Rattle.potential_pairs.specs.Pages.{is_behind, within}
use Rattle.potential_pairs.specs.Potential.{Row}
use Rattle.potential_pairs.proofs.Rows.{none_below, none_later}

-- the rows within a distance that come after a place
abbrev pub behind : Option (FileNo × FileNo) → ℕ → List Row → List Row
behind place m rows = filter (λ row. is_behind place row.0) (within m rows)

-- the place of a name
abbrev pub at_name : ℕ × ℕ → Option (FileNo × FileNo)
at_name name = Some (record { 0 = name.0 }, record { 0 = name.1 })

-- ---- the order of names and places
behind_name : (name q : ℕ × ℕ) → IsBefore name q → is_behind (at_name name) q ≡ true
behind_name name q (inl lower) = grind (arith, nat_tests)
behind_name name q (inr both) = grind (arith, nat_tests)

not_behind_name : (name q : ℕ × ℕ) → ¬ (IsBefore name q) → is_behind (at_name name) q ≡ false
not_behind_name name q never = false_from_ne_true _ (λ is. never (by (nat_lt name.0 q.0) (name.0 == q.0) (nat_lt name.1 q.1) refl refl refl is)) where
  by : (lower same next : Bool) → nat_lt name.0 q.0 ≡ lower → (name.0 == q.0) ≡ same → nat_lt name.1 q.1 ≡ next → (lower || (same && next)) ≡ true → IsBefore name q
  by true same next l s n is = inl (grind (arith, nat_tests))
  by false true true l s n is = inr (grind (arith, nat_tests), grind (arith, nat_tests))
  by false true false l s n is = cc
  by false false next l s n is = cc

before_if_behind : (name q : ℕ × ℕ) → is_behind (at_name name) q ≡ true → IsBefore name q
before_if_behind name q is = by_ordering (pair_cmp name q)
    (λ less. (pair_less name q).0 less)
    (λ equal. let no = not_behind_name name q (λ early. let less = (pair_less name q).1 early in cc) in cc)
    (λ greater. let no = not_behind_name name q (λ early. let less = (pair_less name q).1 early in cc) in cc)

behind_later : (place : Option (FileNo × FileNo)) (name q : ℕ × ℕ) → is_behind place name ≡ true → IsBefore name q → is_behind place q ≡ true
behind_later None name q is before = refl
behind_later (Some place) name q is (inl lower) = grind (arith, nat_tests)
behind_later (Some place) name q is (inr both) = grind (arith, nat_tests)

before_through : (q h name : ℕ × ℕ) → IsBefore q name → ¬ (IsBefore q h) → IsBefore h name
before_through q h name before never =
    let early = (pair_less q name).1 before in
    by_ordering (pair_cmp q h)
    (λ less. absurd (never ((pair_less q h).0 less)))
    (λ equal. (pair_less h name).0 (sym (pair_order.congr q h name equal) ∙ early))
    (λ greater. (pair_less h name).0 (pair_order.trans h q name ((pair_less h q).1 ((pair_greater q h).0 greater)) early))

before_or_same : (q name : ℕ × ℕ) → ¬ (IsBefore q name) → q ≢ name → IsBefore name q
before_or_same q name never other = by_ordering (pair_cmp q name)
    (λ less. absurd (never ((pair_less q name).0 less)))
    (λ equal. absurd (other (pair_exact q name equal)))
    (λ greater. (pair_greater q name).0 greater)

-- ---- one row more at the front
behind-cons : (place : Option (FileNo × FileNo)) (m : ℕ) (row : Row) (rows : List Row)
    → behind place m (row ∷ rows) ≡ cond (nat_le row.1 m && is_behind place row.0) (row ∷ behind place m rows) (behind place m rows)
behind-cons place m row rows = by (nat_le row.1 m) (is_behind place row.0) refl where
  by : (inside later : Bool) → is_behind place row.0 ≡ later
      → filter (λ (r : Row). is_behind place r.0) (cond inside (row ∷ within m rows) (within m rows)) ≡ cond (inside && later) (row ∷ behind place m rows) (behind place m rows)
  by true true is = rw is refl
  by true false is = rw is refl
  by false later is = refl

-- a value among the later rows is one of all rows
later_value : (row : Row) (rows : List Row) (q : ℕ × ℕ) (e : ℕ) → Ascend (row ∷ rows) → value_of pair_cmp rows q ≡ Some e → value_of pair_cmp (row ∷ rows) q ≡ Some e
later_value row rows q e sorted has = by_ordering (pair_cmp q row.0)
    (λ less. rw less has)
    (λ equal. let none = none_later row rows sorted in let moved = ap (value_of pair_cmp rows) (pair_exact q row.0 equal) in cc)
    (λ greater. rw greater has)

first_value : (row : Row) (rows : List Row) → value_of pair_cmp (row ∷ rows) row.0 ≡ Some row.1
first_value row rows = lookup_head (is_at (pair_cmp row.0)) row rows (ap is_eq (tied_itself pair_order row.0))

-- places before all names of the rows make no difference
behind-agree : (place : Option (FileNo × FileNo)) (m : ℕ) (name : ℕ × ℕ) (rows : List Row) → is_behind place name ≡ true
    → AllByRecursion (λ q. pair_cmp name q ≡ Less) (keys_of rows) → behind place m rows ≡ behind (at_name name) m rows
behind-agree place m name [] is later = refl
behind-agree place m name (row ∷ rows) is later =
    let before = (pair_less name row.0).0 later.0 in
    behind-cons place m row rows
    ∙ rw (behind_later place name row.0 is before, ← behind_name name row.0 before, behind-agree place m name rows is later.1) refl
    ∙ sym (behind-cons (at_name name) m row rows)

-- no row comes after the place
pub behind-none : (place : Option (FileNo × FileNo)) (m : ℕ) (rows : List Row) → Ascend rows
    → ((q : ℕ × ℕ) (e : ℕ) → value_of pair_cmp rows q ≡ Some e → e ≤ m → is_behind place q ≡ false) → behind place m rows ≡ []
behind-none place m [] sorted never = refl
behind-none place m (row ∷ rows) sorted never =
    let rest = behind-none place m rows (sorted_tail pair_cmp row.0 (keys_of rows) sorted) (λ q e has. never q e (later_value row rows q e sorted has)) in
    let out : (nat_le row.1 m && is_behind place row.0) ≡ false = false_from_ne_true _ (λ passes.
    let parts = and_parts (nat_le row.1 m) (is_behind place row.0) passes in
    let not_behind = never row.0 row.1 (first_value row rows) (grind (arith, nat_tests)) in
    cc) in
    behind-cons place m row rows ∙ rw (out, rest) refl

-- a name that is the least after the place makes the first row
pub behind-first : (place : Option (FileNo × FileNo)) (m : ℕ) (rows : List Row) (name : ℕ × ℕ) (d : ℕ) → Ascend rows
    → value_of pair_cmp rows name ≡ Some d → d ≤ m → is_behind place name ≡ true
    → ((q : ℕ × ℕ) (e : ℕ) → value_of pair_cmp rows q ≡ Some e → e ≤ m → is_behind place q ≡ true → ¬ (IsBefore q name))
    → behind place m rows ≡ (name, d) ∷ behind (at_name name) m rows
unfolding IsStrictlySortedBy
behind-first place m [] name d sorted has inside is least = cc
behind-first place m (row ∷ rows) name d sorted has inside is least = by_ordering (pair_cmp name row.0)
    (λ less. let none = none_below name row rows sorted less in cc)
    (λ equal.
    let same : name ≡ row.0 = pair_exact name row.0 equal in
    let found : Some row.1 ≡ Some d = sym (rw equal refl) ∙ has in
    let here : row.1 ≡ d = cc in
    let whole : row ≡ (name, d) = λ i. (sym same i, here i) in
    let passes : (nat_le row.1 m && is_behind place row.0) ≡ true = rw (here, ← same) (and_from (nat_le d m) (is_behind place name) (grind (arith, nat_tests)) is) in
    let out : (nat_le row.1 m && is_behind (at_name name) row.0) ≡ false =
    rw (← same) (and_right (nat_le row.1 m) (is_behind (at_name name) name) (not_behind_name name name (λ early. let less = (pair_less name name).1 early in let tie = tied_itself pair_order name in cc))) in
    let later : AllByRecursion (λ q. pair_cmp name q ≡ Less) (keys_of rows) = subst (λ (n : ℕ × ℕ). AllByRecursion (λ q. pair_cmp n q ≡ Less) (keys_of rows)) (sym same) sorted.0 in
    let left : behind place m (row ∷ rows) ≡ row ∷ behind place m rows = behind-cons place m row rows ∙ rw passes refl in
    let right : behind (at_name name) m (row ∷ rows) ≡ behind (at_name name) m rows = behind-cons (at_name name) m row rows ∙ rw out refl in
    left ∙ ap (λ rest. row ∷ rest) (behind-agree place m name rows is later ∙ sym right) ∙ ap (λ (r : Row). r ∷ behind (at_name name) m (row ∷ rows)) whole)
    (λ greater.
    let before = (pair_greater name row.0).0 greater in
    let out : (nat_le row.1 m && is_behind place row.0) ≡ false = false_from_ne_true _ (λ passes.
    let parts = and_parts (nat_le row.1 m) (is_behind place row.0) passes in
    least row.0 row.1 (first_value row rows) (grind (arith, nat_tests)) parts.1 before) in
    let out_too : (nat_le row.1 m && is_behind (at_name name) row.0) ≡ false =
    and_right (nat_le row.1 m) (is_behind (at_name name) row.0) (not_behind_name name row.0 (λ early. let less = (pair_less name row.0).1 early in cc)) in
    let there : value_of pair_cmp rows name ≡ Some d = rw greater at has in
    let rest = behind-first place m rows name d (sorted_tail pair_cmp row.0 (keys_of rows) sorted) there inside is (λ q e had. least q e (later_value row rows q e sorted had)) in
    let left : behind place m (row ∷ rows) ≡ behind place m rows = behind-cons place m row rows ∙ rw out refl in
    let right : behind (at_name name) m (row ∷ rows) ≡ behind (at_name name) m rows = behind-cons (at_name name) m row rows ∙ rw out_too refl in
    left ∙ rest ∙ ap (λ later. (name, d) ∷ later) (sym right))

-- ---- heads
module _ (rows : List Row) (m : ℕ) (place : Option (FileNo × FileNo)) (heads : List (Option (ℕ × ℕ))) (sorted : Ascend rows)
    (shallow : (q : ℕ × ℕ) (e : ℕ) → value_of pair_cmp rows q ≡ Some e → e ≤ MAX_DISTANCE) (are : AreHeads rows m place heads) where
  head-none : (d : ℕ) (head : Option (ℕ × ℕ)) → head ≡ None → IsHead rows m place d head → d ≤ m → IsFirstBehind rows d place None
  head-none d None none is inside = is inside
  head-none d (Some name) none is inside = cc

  -- where there is no head, no row comes after the place
  pub none-behind : (n : ℕ) → MAX_DISTANCE < n → IsLeastHead heads n None → behind place m rows ≡ []
  none-behind n all none = behind-none place m rows sorted (λ q e has inside.
      let near = shallow q e has in
      head-none e (get_or heads e None) (none e (omega (arith, near, all))) (are e near) inside q has)

  head-before : (d : ℕ) (head : Option (ℕ × ℕ)) (name q : ℕ × ℕ) → IsHead rows m place d head → IfSome head (λ h. ¬ (IsBefore h name)) → d ≤ m
      → value_of pair_cmp rows q ≡ Some d → is_behind place q ≡ true → ¬ (IsBefore q name)
  head-before d None name q is least inside has behind_place = let no_more = is inside q has in cc
  head-before d (Some h) name q is least inside has behind_place = λ early. least (before_through q h name early (is.1.2 q has behind_place))

  -- the least head is the first row
  pub first-behind : (n at : ℕ) (name : ℕ × ℕ) → MAX_DISTANCE < n → at ≤ MAX_DISTANCE → IsLeastHead heads n (Some (at, name)) → behind place m rows ≡ (name, at) ∷ behind (at_name name) m rows
  first-behind n at name all within (below, here, least) =
      let head : IsHead rows m place at (Some name) = subst (IsHead rows m place at) here (are at within) in
      behind-first place m rows name at sorted head.1.0 head.0 head.1.1 (λ q e has inside behind_place.
      let near = shallow q e has in
      head-before e (get_or heads e None) name q (are e near) (least e (omega (arith, near, all))) inside has behind_place)

  -- other heads stay
  head-stays : (d at : ℕ) (head : Option (ℕ × ℕ)) (name : ℕ × ℕ) → d ≢ at → value_of pair_cmp rows name ≡ Some at → is_behind place name ≡ true
      → IfSome head (λ h. ¬ (IsBefore h name)) → IsHead rows m place d head → IsHead rows m (at_name name) d head
  head-stays d at None name other has later least is = λ inside q value. false_from_ne_true _ (λ behind_it.
      let no_more = is inside q value in
      let still = behind_later place name q later (before_if_behind name q behind_it) in
      cc)
  head-stays d at (Some h) name other has later least is =
      let apart : h ≢ name = λ same. let value : Some d ≡ Some at = sym is.1.0 ∙ ap (value_of pair_cmp rows) same ∙ has in let equal : d ≡ at = cc in other equal in (
        is.0,
        (is.1.0, behind_name name h (before_or_same h name least apart), λ q value behind_it. is.1.2 q value (behind_later place name q later (before_if_behind name q behind_it))),
      )

  head-new : (d : ℕ) (name : ℕ × ℕ) (new : Option (ℕ × ℕ)) → d ≤ m → IsFirstBehind rows d (at_name name) new → IsHead rows m (at_name name) d new
  head-new d name None inside first = λ _. first
  head-new d name (Some h) inside first = (inside, first)

  -- the heads once the least has gone out
  pub heads-after : (n at : ℕ) (name : ℕ × ℕ) (new : Option (ℕ × ℕ)) → MAX_DISTANCE < n → at ≤ MAX_DISTANCE → at < length heads → IsLeastHead heads n (Some (at, name))
      → IsFirstBehind rows at (at_name name) new → AreHeads rows m (at_name name) (set heads at new)
  heads-after n at name new all within there (below, here, least) first d near =
      let head : IsHead rows m place at (Some name) = subst (IsHead rows m place at) here (are at within) in
      elim (cases_eq d at) [
        | inl same ↦
            let value : get_or (set heads at new) d None ≡ new = ap (λ k. get_or (set heads at new) k None) same ∙ get_or-set_same heads at new None there in
            let first_here : IsFirstBehind rows d (at_name name) new = subst (λ k. IsFirstBehind rows k (at_name name) new) (sym same) first in
            subst (IsHead rows m (at_name name) d) (sym value) (head-new d name new (omega (arith, same, head.0)) first_here)
        | inr other ↦
            let value : get_or (set heads at new) d None ≡ get_or heads d None = get_or-set_other heads at d new None other in
            subst (IsHead rows m (at_name name) d) (sym value) (head-stays d at (get_or heads d None) name other head.1.0 head.1.1 (least d (omega (arith, near, all))) (are d near))
      ]

-- ---- the first of what is left goes out
pub take_next : {X : Type 0} (xs ys : List X) (y : X) (i : ℕ) → drop i xs ≡ y ∷ ys → (take (i + 1) xs ≡ take i xs ++ y ∷ []) × (drop (i + 1) xs ≡ ys)
take_next xs ys y i left =
    let longer : i < length xs = elim (cases_lt i (length xs)) [ inl lower ↦ lower | inr past ↦ let none = drop_all i xs past in cc ] in
    let next = drop_more xs i y longer in
    let same : get_or xs i y ≡ y = cc in
    let rest : drop (i + 1) xs ≡ ys = cc in
    (take_more xs i y longer ∙ ap (λ x. take i xs ++ x ∷ []) same, rest)

nothing_left : {X : Type 0} (xs : List X) (i : ℕ) → drop i xs ≡ [] → length xs ≤ i
nothing_left [] i none = omega arith
nothing_left (x ∷ xs) i none = elim (cases_lt i (length (x ∷ xs))) [ inl lower ↦ let next = drop_more (x ∷ xs) i x lower in cc | inr enough ↦ enough ]

pub take_over : {X : Type 0} (xs : List X) (i n : ℕ) → i ≤ n → drop i xs ≡ [] → take i xs ≡ take n xs
take_over xs i n le none =
    let past = nothing_left xs i none in
    take_all i xs past ∙ sym (take_all n xs (omega (arith, past, le)))

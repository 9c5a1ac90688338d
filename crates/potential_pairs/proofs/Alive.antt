-- Which files are live once one is live again, or deleted, and what their near pairs are named then.
use Rattle.std.proofs.Common.{◌≡◌, ◌≢◌, ◌∙◌, ◌<◌, ◌==◌, ◌&&◌, ◌||◌, ℕ, Bool, true, false, cond, not, List, [], ◌∷◌, Some, None, refl, sym, ap, inl, inr, arith}
use Rattle.std.specs.BTreeSet.{insert_key}
use Rattle.std.specs.List.{AllByRecursion, list_any}
use Rattle.std.specs.List.Sorted.{IsStrictlySortedBy}
use Rattle.std.specs.Ordering.{nat_cmp}
use Rattle.std.specs.declared.cmp.Ordering.TheVariants.{Less, Greater}
use Rattle.std.proofs.lemmas.Bool.{cases_eq, eq-eqb, eqb-true, ne_eqb, or_cases, or_parts}
use Rattle.std.proofs.lemmas.Map.Keys.{sorted_head, sorted_tail}
use Rattle.media_types.specs.declared.numbers.FileNo.{FileNo}
use Rattle.spare_tables.specs.KeyLaws.{by_ordering}
use Rattle.spare_tables.specs.Keys.{without}
use Rattle.spare_tables.specs.Order.{number_exact}
use Rattle.spare_tables.specs.PairLaws.{number_says}
use Rattle.relation_groups.specs.Relations.{Relations}
use Rattle.potential_pairs.specs.Naming.{live_name, name_of}
use Rattle.potential_pairs.specs.Planning.{has_file, with_live}
use Rattle.potential_pairs.specs.Potential.{is_live}
use Rattle.potential_pairs.proofs.OneFile.{same-test}

abbrev is_in : ℕ → List ℕ → Bool
is_in x gone = list_any (λ g. g == x) gone

or_first : (a b c : Bool) → a || (b || c) ≡ b || (a || c)
or_first true true c = refl
or_first true false c = refl
or_first false true c = refl
or_first false false c = refl

or_again : (a b : Bool) → a || b ≡ a || (a || b)
or_again true b = refl
or_again false b = refl

in-inserted : (gone : List ℕ) (f x : ℕ) → is_in x (insert_key nat_cmp gone f) ≡ f == x || is_in x gone
in-inserted [] f x = refl
in-inserted (g ∷ gone) f x = by_ordering (nat_cmp f g)
    (λ less. rw less refl)
    (λ equal. rw equal (ap (λ k. k == x || is_in x gone) (sym (number_exact f g equal)) ∙ or_again (f == x) (is_in x gone) ∙ ap (λ k. f == x || (k == x || is_in x gone)) (number_exact f g equal)))
    (λ greater. rw greater (ap (λ rest. g == x || rest) (in-inserted gone f x) ∙ or_first (g == x) (f == x) (is_in x gone)))

-- what is less than all isn't there
not_below : (gone : List ℕ) (x : ℕ) → AllByRecursion (λ g. nat_cmp x g ≡ Less) gone → is_in x gone ≡ false
not_below [] x all = refl
not_below (g ∷ gone) x all =
    let less = number_says x g Less all.0 in
    let apart = ne_eqb g x (λ same. omega (arith, same, less)) in
    rw apart (not_below gone x all.1)

in-removed : (gone : List ℕ) (f x : ℕ) → IsStrictlySortedBy nat_cmp gone → is_in x (without nat_cmp gone f) ≡ cond (x == f) false (is_in x gone)
in-removed [] f x sorted = by (x == f) where
  by : (same : Bool) → false ≡ cond same false false
  by true = refl
  by false = refl
in-removed (g ∷ gone) f x sorted = by_ordering (nat_cmp f g)
    (λ less. rw less (later (in-removed gone f x (sorted_tail nat_cmp g gone sorted)) (λ same. let lower = number_says f g Less less in omega (arith, same, lower))))
    (λ equal. rw equal (here (number_exact f g equal)))
    (λ greater. rw greater (later (in-removed gone f x (sorted_tail nat_cmp g gone sorted)) (λ same. let higher = number_says f g Greater greater in omega (arith, same, higher)))) where
      later : is_in x (without nat_cmp gone f) ≡ cond (x == f) false (is_in x gone) → f ≢ g → g == x || is_in x (without nat_cmp gone f) ≡ cond (x == f) false (g == x || is_in x gone)
      later rest apart = ap (λ r. g == x || r) rest ∙ elim (cases_eq x f) [
        | inl same ↦ let first = ne_eqb g x (λ is. apart (sym same ∙ sym is)) in let second = eq-eqb x f same in rw (first, second) refl
        | inr other ↦ let second = ne_eqb x f other in rw second refl
      ]

      here : f ≡ g → is_in x gone ≡ cond (x == f) false (g == x || is_in x gone)
      here is = elim (cases_eq x f) [
        | inl same ↦ let second = eq-eqb x f same in rw second (ap (λ k. is_in k gone) (same ∙ is) ∙ not_below gone g (sorted_head nat_cmp g gone sorted))
        | inr other ↦ let first = ne_eqb g x (λ same. other (sym same ∙ sym is)) in let second = ne_eqb x f other in rw (first, second) refl
      ]

pub live-after : (gone : List ℕ) (file : FileNo) (live : Bool) (x : ℕ) → IsStrictlySortedBy nat_cmp gone → is_live (with_live (Some (file, live)) gone) x ≡ cond (x == file.0) live (is_live gone x)
live-after gone file true x sorted = ap not (in-removed gone file.0 x sorted) ∙ by (x == file.0) (is_in x gone) where
  by : (same found : Bool) → not (cond same false found) ≡ cond same true (not found)
  by true found = refl
  by false found = refl
live-after gone file false x sorted = ap not (in-inserted gone file.0 x) ∙ ap (λ same. not (same || is_in x gone)) (same-test file.0 x) ∙ by (x == file.0) (is_in x gone) where
  by : (same found : Bool) → not (same || found) ≡ cond same false (not found)
  by true found = refl
  by false found = refl

-- where the file is as it will be, no name changes
pub name_kept : (R : Relations) (gone : List ℕ) (file : FileNo) (live : Bool) → IsStrictlySortedBy nat_cmp gone → is_live gone file.0 ≡ live
    → (files : ℕ × ℕ) → live_name R (with_live (Some (file, live)) gone) files ≡ live_name R gone files
unfolding live_name
name_kept R gone file live sorted is files =
    let same : (x : ℕ) → is_live (with_live (Some (file, live)) gone) x ≡ is_live gone x = λ x. live-after gone file live x sorted ∙ elim (cases_eq x file.0) [
      | inl here ↦ let first = eq-eqb x file.0 here in rw first (sym is ∙ ap (is_live gone) (sym here))
      | inr other ↦ let first = ne_eqb x file.0 other in rw first refl
    ] in
    λ i. cond (same files.0 i && same files.1 i) (name_of R files.0 files.1) None

-- a near pair without the file keeps its name
pub name_elsewhere : (R : Relations) (gone : List ℕ) (file : FileNo) (live : Bool) → IsStrictlySortedBy nat_cmp gone → (files : ℕ × ℕ) → has_file file.0 files ≡ false
    → live_name R (with_live (Some (file, live)) gone) files ≡ live_name R gone files
unfolding live_name
name_elsewhere R gone file live sorted files none =
    let parts = or_parts (file.0 == files.0) (file.0 == files.1) none in
    let first = live-after gone file live files.0 sorted ∙ ap (λ here. cond here live (is_live gone files.0)) (same-test files.0 file.0 ∙ parts.0) in
    let second = live-after gone file live files.1 sorted ∙ ap (λ here. cond here live (is_live gone files.1)) (same-test files.1 file.0 ∙ parts.1) in
    λ i. cond (first i && second i) (name_of R files.0 files.1) None

-- ---- a near pair of the file
and_true : (b : Bool) → b && true ≡ b
and_true true = refl
and_true false = refl

and_false : (b : Bool) → b && false ≡ false
and_false true = refl
and_false false = refl

module _ (R : Relations) (gone : List ℕ) (file : FileNo) (sorted : IsStrictlySortedBy nat_cmp gone) (f g : ℕ) (lower : f < g) (of_file : has_file file.0 (f, g) ≡ true) where
  -- the file counts as it will be, and the other one as it is
  both_live : (live : Bool) → is_live (with_live (Some (file, live)) gone) f && is_live (with_live (Some (file, live)) gone) g ≡ live && is_live gone (cond (f == file.0) g f)
  both_live live = elim (cases_eq f file.0) [
    | inl same ↦
        let first = eq-eqb f file.0 same in
        let second = ne_eqb g file.0 (λ is. omega (arith, is, same, lower)) in
        (λ i. live-after gone file live f sorted i && live-after gone file live g sorted i) ∙ rw (first, second) refl
    | inr other ↦
        let first = ne_eqb f file.0 other in
        let second : g == file.0 ≡ true = elim (or_cases (file.0 == f) (file.0 == g) of_file) [
          | inl is ↦ absurd (other (sym (eqb-true file.0 f is)))
          | inr is ↦ same-test g file.0 ∙ is
        ] in
        (λ i. live-after gone file live f sorted i && live-after gone file live g sorted i) ∙ rw (first, second) (turn (is_live gone f) live)
  ] where
    turn : (a b : Bool) → a && b ≡ b && a
    turn true b = sym (and_true b)
    turn false b = sym (and_false b)

  pub name_more : is_live gone (cond (f == file.0) g f) ≡ true → live_name R (with_live (Some (file, true)) gone) (f, g) ≡ name_of R f g
  unfolding live_name
  name_more live = ap (λ both. cond both (name_of R f g) None) (both_live true ∙ live)

  pub name_less : live_name R (with_live (Some (file, false)) gone) (f, g) ≡ None
  unfolding live_name
  name_less = ap (λ both. cond both (name_of R f g) None) (both_live false)

  pub name_quiet : is_live gone (cond (f == file.0) g f) ≡ false → (live : Bool) → live_name R (with_live (Some (file, live)) gone) (f, g) ≡ None
  unfolding live_name
  name_quiet dead live = ap (λ both. cond both (name_of R f g) None) (both_live live ∙ ap (λ other. live && other) dead ∙ and_false live)

  -- what the pair is named now, by what it would be named if the file were as it is
  pub name_before : (live : Bool) → is_live gone file.0 ≡ not live → live_name R gone (f, g) ≡ live_name R (with_live (Some (file, not live)) gone) (f, g)
  name_before live is = sym (name_kept R gone file (not live) sorted is (f, g))

-- The rows of some children, one child after the other, are those whose child is one of them.
use Rattle.std.proofs.Common.{◌≡◌, ◌∙◌, ◌+◌, ◌<◌, ◌≤◌, ◌==◌, ◌&&◌, ◌||◌, ℕ, zero, suc, Bool, true, false, cond, Option, Some, None, List, [], ◌∷◌, ◌++◌, length, length-append, map, filter, take, get_or, refl, sym, ap, arith}
use Rattle.std.specs.List.{flat_map, list_any}
use Rattle.std.proofs.lemmas.Grind.{flat_map-append}
use Rattle.std.proofs.lemmas.List.{take_more}
use Rattle.std.proofs.lemmas.List.Elements.{filter-append}
use Rattle.std.proofs.lemmas.List.Folds.{list_any-append}
use Rattle.media_types.specs.declared.numbers.ServiceNo.{ServiceNo}
use Rattle.sibling_chains.specs.Clustered.{rows_but}
use Rattle.sibling_chains.specs.Clusters.{rows_within}
use Rattle.sibling_chains.specs.Recorded.{pair_of, pairs_in, pairs_of}
use Rattle.sibling_chains.specs.declared.relation_row.RelationRow.{RelationRow}
use Rattle.parent_closure.specs.Ancestors.{between_ideals}
use Rattle.sibling_chains.specs.Recorded.{removed_at}
use Rattle.parent_closure.specs.declared.parent_plan.Change.{Change}
use Rattle.parent_closure.specs.declared.parent_plan.Change.TheVariants.{Add, Remove, Order}
use Rattle.parent_closure.specs.declared.parent_plan.ParentPlan.{ParentPlan}
use Rattle.parent_closure.specs.Implied.{added_by, gone_by, planned}
use Rattle.parent_closure.specs.Planning.{added_of, after, changed, gone_of}
use Rattle.parent_closure.specs.Kept.{Kept, rows_of, rows_with}
use Rattle.parent_closure.specs.Reached.{has}
use Rattle.parent_closure.specs.Sets.{HaveSame}

append-nil : {X : Type 0} (xs : List X) → xs ++ [] ≡ xs
append-nil [] = refl
append-nil (x ∷ xs) = ap (λ l. x ∷ l) (append-nil xs)

-- one child more
pub one-child : (rows : List RelationRow) (tags : List ℕ) (i : ℕ) → i < length tags → flat_map (rows_of rows) (take (i + 1) tags) ≡ flat_map (rows_of rows) (take i tags) ++ rows_of rows (get_or tags i 0)
one-child rows tags i lt =
    ap (flat_map (rows_of rows)) (take_more tags i 0 lt)
    ∙ flat_map-append (rows_of rows) (take i tags) (get_or tags i 0 ∷ [])
    ∙ ap (λ l. flat_map (rows_of rows) (take i tags) ++ l) (append-nil (rows_of rows (get_or tags i 0)))

-- some of the children have no more rows than all
pub few-children : (rows : List RelationRow) (tags : List ℕ) (n : ℕ) → length (flat_map (rows_of rows) (take n tags)) ≤ length (flat_map (rows_of rows) tags)
few-children rows [] zero = omega arith
few-children rows [] (suc n) = omega arith
few-children rows (t ∷ tags) zero = omega arith
few-children rows (t ∷ tags) (suc n) =
    let rest = few-children rows tags n in
    omega (arith, rest, length-append (rows_of rows t) (flat_map (rows_of rows) (take n tags)), length-append (rows_of rows t) (flat_map (rows_of rows) tags))

-- ---- the same rows

-- what is asked of the rows of a list that pass
any-filter : {X : Type 0} (keeps test : X → Bool) (xs : List X) → list_any test (filter keeps xs) ≡ list_any (λ x. keeps x && test x) xs
any-filter keeps test [] = refl
any-filter keeps test (x ∷ xs) = by (keeps x) (any-filter keeps test xs) where
  by : (b : Bool) → list_any test (filter keeps xs) ≡ list_any (λ x. keeps x && test x) xs → list_any test (cond b (x ∷ filter keeps xs) (filter keeps xs)) ≡ ((b && test x) || list_any (λ x. keeps x && test x) xs)
  by true rest = ap (λ (l : Bool). test x || l) rest
  by false rest = rest

any-either : {X : Type 0} (f g : X → Bool) (xs : List X) → (list_any f xs || list_any g xs) ≡ list_any (λ x. f x || g x) xs
any-either f g [] = refl
any-either f g (x ∷ xs) = swap (f x) (g x) (list_any f xs) (list_any g xs) ∙ ap (λ (l : Bool). (f x || g x) || l) (any-either f g xs) where
  swap : (a b l m : Bool) → ((a || l) || (b || m)) ≡ ((a || b) || (l || m))
  swap true b l m = refl
  swap false true true m = refl
  swap false true false m = refl
  swap false false l m = refl

any-agree : {X : Type 0} (f g : X → Bool) → ((x : X) → f x ≡ g x) → (xs : List X) → list_any f xs ≡ list_any g xs
any-agree f g e [] = refl
any-agree f g e (x ∷ xs) = rw (e x, any-agree f g e xs) refl

any-none : {X : Type 0} (xs : List X) → list_any (λ x. false) xs ≡ false
any-none [] = refl
any-none (x ∷ xs) = any-none xs

-- the rows of the children are those within the children
pub children-within : (rows : List RelationRow) (tags : List ℕ) → HaveSame (flat_map (rows_of rows) tags) (rows_within (has tags) rows)
children-within rows [] test = sym (any-filter (λ (row : RelationRow). false) test rows ∙ any-none rows)
children-within rows (t ∷ tags) test =
    list_any-append test (rows_of rows t) (flat_map (rows_of rows) tags)
    ∙ ap (λ (l : Bool). list_any test (rows_of rows t) || l) (children-within rows tags test ∙ any-filter (λ (row : RelationRow). has tags row.first.0) test rows)
    ∙ ap (λ (l : Bool). l || list_any (λ (row : RelationRow). has tags row.first.0 && test row) rows) (any-filter (λ (row : RelationRow). row.first.0 == t) test rows)
    ∙ any-either (λ (row : RelationRow). row.first.0 == t && test row) (λ row. has tags row.first.0 && test row) rows
    ∙ any-agree (λ (row : RelationRow). (row.first.0 == t && test row) || (has tags row.first.0 && test row)) (λ row. has (t ∷ tags) row.first.0 && test row) (λ row. share (row.first.0 == t) (has tags row.first.0) (test row)) rows
    ∙ sym (any-filter (λ (row : RelationRow). has (t ∷ tags) row.first.0) test rows)
  where
    share : (a b c : Bool) → ((a && c) || (b && c)) ≡ ((a || b) && c)
    share true true true = refl
    share true true false = refl
    share true false true = refl
    share true false false = refl
    share false b c = refl

-- with one row more
pub with-added : (rows more : List RelationRow) (tags : List ℕ) (list : List RelationRow) → HaveSame list (rows_within (has tags) rows) → HaveSame (list ++ rows_within (has tags) more) (rows_within (has tags) (rows ++ more))
with-added rows more tags list same test =
    list_any-append test list (rows_within (has tags) more)
    ∙ ap (λ (l : Bool). l || list_any test (rows_within (has tags) more)) (same test)
    ∙ sym (list_any-append test (rows_within (has tags) rows) (rows_within (has tags) more))
    ∙ ap (list_any test) (sym (filter-append (λ (row : RelationRow). has tags row.first.0) rows more))

-- ---- the same pairs

any-map : {X Y : Type 0} (f : X → Y) (test : Y → Bool) (xs : List X) → list_any test (map f xs) ≡ list_any (λ x. test (f x)) xs
any-map f test [] = refl
any-map f test (x ∷ xs) = ap (λ (l : Bool). test (f x) || l) (any-map f test xs)

of-same : (list rows : List RelationRow) → HaveSame list rows → (s : ServiceNo) → HaveSame (pairs_of list s) (pairs_of rows s)
of-same list rows same s test = one list ∙ same (λ row. (row.standing && row.service.0 == s.0) && test (pair_of row)) ∙ sym (one rows) where
  one : (xs : List RelationRow) → list_any test (pairs_of xs s) ≡ list_any (λ (row : RelationRow). (row.standing && row.service.0 == s.0) && test (pair_of row)) xs
  one xs =
      any-map pair_of test (filter (λ (row : RelationRow). row.standing && row.service.0 == s.0) xs)
      ∙ any-filter (λ (row : RelationRow). row.standing && row.service.0 == s.0) (λ row. test (pair_of row)) xs

in-same : (list rows : List RelationRow) → HaveSame list rows → (order : List ServiceNo) → HaveSame (pairs_in order list) (pairs_in order rows)
in-same list rows same [] test = refl
in-same list rows same (s ∷ order) test =
    list_any-append test (pairs_of list s) (pairs_in order list)
    ∙ ap (λ (l : Bool). l || list_any test (pairs_in order list)) (of-same list rows same s test)
    ∙ ap (λ (l : Bool). list_any test (pairs_of rows s) || l) (in-same list rows same order test)
    ∙ sym (list_any-append test (pairs_of rows s) (pairs_in order rows))

-- the same rows make the same pairs, between ideal tags
pub between-same : (ideal : ℕ → ℕ) (list rows : List RelationRow) → HaveSame list rows → (order : List ServiceNo) → HaveSame (map (between_ideals ideal) (pairs_in order list)) (map (between_ideals ideal) (pairs_in order rows))
between-same ideal list rows same order test =
    any-map (between_ideals ideal) test (pairs_in order list)
    ∙ in-same list rows same order (λ p. test (between_ideals ideal p))
    ∙ sym (any-map (between_ideals ideal) test (pairs_in order rows))

-- ---- what a plan does to the rows

planned-by : (change : Change) (v : Kept) → (changed change v).rows ≡ rows_but (gone_of change) v.rows ++ rows_with (added_of change)
planned-by (Add row) v = refl
planned-by (Remove it) v = sym (append-nil (removed_at it.number v.rows))
planned-by (Order it) v = sym (append-nil v.rows)

pub planned-rows : (plan : Option ParentPlan) (v : Kept) → (planned plan v).rows ≡ rows_but (gone_by plan) v.rows ++ rows_with (added_by plan)
unfolding after
planned-rows None v = sym (append-nil v.rows)
planned-rows (Some plan) v = planned-by plan.change v

-- the rows of some children once a plan is carried out
pub planned-within : (plan : Option ParentPlan) (v : Kept) (tags : List ℕ) →
    HaveSame (flat_map (rows_of (rows_but (gone_by plan) v.rows)) tags ++ rows_within (has tags) (rows_with (added_by plan))) (rows_within (has tags) (planned plan v).rows)
planned-within plan v tags test =
    let rows = rows_but (gone_by plan) v.rows in
    with-added rows (rows_with (added_by plan)) tags (flat_map (rows_of rows) tags) (children-within rows tags) test
    ∙ ap (λ (l : List RelationRow). list_any test (rows_within (has tags) l)) (sym (planned-rows plan v))

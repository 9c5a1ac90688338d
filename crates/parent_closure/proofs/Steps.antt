-- The pairs that are read between ideal tags.
use Rattle.std.proofs.Common.{◌≡◌, ◌∙◌, ℕ, ◌==◌, ◌&&◌, ◌||◌, not, Bool, true, false, cond, List, [], ◌∷◌, ◌++◌, map, filter, refl, sym, ap}
use Rattle.std.specs.List.{flat_map}
use Rattle.std.proofs.lemmas.Bool.{eqb-true, eq-eqb}
use Rattle.std.proofs.lemmas.List.{map-append}
use Rattle.std.proofs.lemmas.List.Folds.{list_any-append}
use Rattle.media_types.specs.declared.numbers.ServiceNo.{ServiceNo}
use Rattle.sibling_chains.specs.declared.relation_row.RelationRow.{RelationRow}
use Rattle.sibling_chains.specs.Known.{Known, ideal_in}
use Rattle.sibling_chains.specs.Recorded.{pairs_of, pairs_in}
use Rattle.parent_closure.specs.Ancestors.{between_ideals}
use Rattle.parent_closure.specs.Implied.{steps_by}
use Rattle.parent_closure.specs.Reached.{has, is_not, with_tag}

-- service by service
pub steps-all : (w : Known) (s : ℕ) (rows : List RelationRow) (order : List ServiceNo)
    → flat_map (steps_by w s rows) order ≡ map (between_ideals (ideal_in w s)) (pairs_in order rows)
steps-all w s rows [] = refl
steps-all w s rows (of ∷ order) =
    ap (λ l. steps_by w s rows of ++ l) (steps-all w s rows order)
    ∙ sym (map-append (between_ideals (ideal_in w s)) (pairs_of rows of) (pairs_in order rows))

-- ---- a list with a tag, and without one
pub has-with : (list : List ℕ) (i b : ℕ) → has (with_tag list i) b ≡ (b == i || has list b)
has-with list i b = by (has list i) refl
  where
    swap : (x y : Bool) → (x || (y || false)) ≡ (y || x)
    swap true true = refl
    swap true false = refl
    swap false true = refl
    swap false false = refl

    there : (y : Bool) → (b == i) ≡ y → has list i ≡ true → has list b ≡ (y || has list b)
    there false e h = refl
    there true e h = ap (has list) (eqb-true b i e) ∙ h

    by : (x : Bool) → has list i ≡ x → has (cond x list (list ++ i ∷ [])) b ≡ (b == i || has list b)
    by true e = there (b == i) refl e
    by false e = list_any-append (λ x. b == x) list (i ∷ []) ∙ swap (has list b) (b == i)

pub has-without : (list : List ℕ) (i b : ℕ) → has (filter (is_not i) list) b ≡ (not (b == i) && has list b)
has-without [] i b = none (not (b == i))
  where
    none : (x : Bool) → false ≡ (x && false)
    none true = refl
    none false = refl
has-without (x ∷ list) i b = by (x == i) refl (b == x) refl (has-without list i b)
  where
    by : (c : Bool) → (x == i) ≡ c → (d : Bool) → (b == x) ≡ d → has (filter (is_not i) list) b ≡ (not (b == i) && has list b)
        → has (cond (not c) (x ∷ filter (is_not i) list) (filter (is_not i) list)) b ≡ (not (b == i) && (d || has list b))
    by true ec true ed rest =
        let is : (b == i) ≡ true = eq-eqb b i (eqb-true b x ed ∙ eqb-true x i ec) in
        rest ∙ rw is refl
    by true ec false ed rest = rest
    by false ec true ed rest =
        let no-it : (b == i) ≡ false = ap (λ n. n == i) (eqb-true b x ed) ∙ ec in
        rw (ed, no-it) refl
    by false ec false ed rest = rw ed rest

-- The fold of the pairs of a cluster, service by service.
use Rattle.std.proofs.Common.{◌≡◌, ◌∙◌, ℕ, ◌+◌, ◌<◌, ◌==◌, ◌&&◌, ◌⊎◌, Bool, true, false, cond, List, [], ◌∷◌, ◌++◌, length, map, filter, get_or, take, refl, sym, ap, inl, inr}
use Rattle.std.proofs.Math.Path.{fun_ext}
use Rattle.std.proofs.lemmas.Bool.{cases_Bool, eqb-true}
use Rattle.std.proofs.lemmas.List.{append_assoc, take_more}
use Rattle.media_types.specs.declared.numbers.ServiceNo.{ServiceNo}
use Rattle.sibling_chains.specs.declared.relation_row.RelationRow.{RelationRow}
use Rattle.sibling_chains.specs.Ends.{end_beside, ends, ends_after}
use Rattle.sibling_chains.specs.Following.{Pair}
use Rattle.sibling_chains.specs.Recorded.{pair_of, pairs_in, pairs_of}

pub beside-own : (tags : List ℕ) → end_beside tags tags ≡ (λ t. t)
beside-own tags = fun_ext (own tags)
  where
    own : (tags : List ℕ) (t : ℕ) → end_beside tags tags t ≡ t
    own [] t = refl
    own (x ∷ tags) t = by (cases_Bool (x == t)) (own tags t)
      where
        by : ((x == t) ≡ true) ⊎ ((x == t) ≡ false) → end_beside tags tags t ≡ t → cond (x == t) x (end_beside tags tags t) ≡ t
        by (inl same) rest = rw same (eqb-true x t same)
        by (inr other) rest = rw other rest

pub after-append : (xs ys : List Pair) (end : ℕ → ℕ) → ends_after (xs ++ ys) end ≡ ends_after ys (ends_after xs end)
after-append [] ys end = refl
after-append (p ∷ xs) ys end = after-append xs ys (ends p end)

pairs_of-push : (rows : List RelationRow) (row : RelationRow) (s : ServiceNo) → pairs_of (rows ++ row ∷ []) s ≡ pairs_of rows s ++ pairs_of (row ∷ []) s
pairs_of-push [] row s = refl
pairs_of-push (r ∷ rows) row s = by (r.standing && r.service.0 == s.0) (pairs_of-push rows row s)
  where
    by : (b : Bool) → pairs_of (rows ++ row ∷ []) s ≡ pairs_of rows s ++ pairs_of (row ∷ []) s
        → map pair_of (cond b (r ∷ filter (λ q. q.standing && q.service.0 == s.0) (rows ++ row ∷ [])) (filter (λ q. q.standing && q.service.0 == s.0) (rows ++ row ∷ [])))
        ≡ map pair_of (cond b (r ∷ filter (λ q. q.standing && q.service.0 == s.0) rows) (filter (λ q. q.standing && q.service.0 == s.0) rows)) ++ pairs_of (row ∷ []) s
    by true e = ap (λ l. pair_of r ∷ l) e
    by false e = e

-- one more row is met
pub after-row : (rows : List RelationRow) (s : ServiceNo) (i : ℕ) (d : RelationRow) (end : ℕ → ℕ) → i < length rows
    → ends_after (pairs_of (take (i + 1) rows) s) end ≡ ends_after (pairs_of (get_or rows i d ∷ []) s) (ends_after (pairs_of (take i rows) s) end)
after-row rows s i d end h =
    let row : RelationRow = get_or rows i d in
    ap (λ l. ends_after (pairs_of l s) end) (take_more rows i d h)
    ∙ ap (λ l. ends_after l end) (pairs_of-push (take i rows) row s)
    ∙ after-append (pairs_of (take i rows) s) (pairs_of (row ∷ []) s) end

flat-push : (rows : List RelationRow) (order : List ServiceNo) (s : ServiceNo) → pairs_in (order ++ s ∷ []) rows ≡ pairs_in order rows ++ pairs_of rows s
flat-push rows [] s = append-none (pairs_of rows s)
  where
    append-none : (xs : List Pair) → xs ++ [] ≡ xs
    append-none [] = refl
    append-none (x ∷ xs) = ap (λ l. x ∷ l) (append-none xs)
flat-push rows (r ∷ order) s = ap (λ l. pairs_of rows r ++ l) (flat-push rows order s) ∙ sym (append_assoc (pairs_of rows r) (pairs_in order rows) (pairs_of rows s))

-- the pairs of one more service are met
pub after-service : (rows : List RelationRow) (order : List ServiceNo) (i : ℕ) (d : ServiceNo) (end : ℕ → ℕ) → i < length order
    → ends_after (pairs_in (take (i + 1) order) rows) end ≡ ends_after (pairs_of rows (get_or order i d)) (ends_after (pairs_in (take i order) rows) end)
after-service rows order i d end h =
    let s : ServiceNo = get_or order i d in
    ap (λ l. ends_after (pairs_in l rows) end) (take_more order i d h)
    ∙ ap (λ l. ends_after l end) (flat-push rows (take i order) s)
    ∙ after-append (pairs_in (take i order) rows) (pairs_of rows s) end

-- Labels become the names of their classes.
use Rattle.std.proofs.Common.{◌≡◌, ◌∙◌, ℕ, suc, ◌+◌, ◌<◌, ◌≤◌, ◌==◌, ◌&&◌, ◌||◌, not, Bool, true, false, cond, List, [], ◌∷◌, length, get_or, map, filter, All, zero-add, ⊎_elim, refl, sym, ap, arith}
use Rattle.std.proofs.Math.ListN.{set}
use Rattle.std.proofs.lemmas.Bool.{true≢false, false≢true, eq-eqb, false_from_ne_true, le-ltb, lt-ltb, ltb-false, ltb-true, not-true, or_cases}
use Rattle.std.proofs.lemmas.Bool.Decides.{nat_tests, Decides-eqb, same_from_decides}
use Rattle.std.proofs.lemmas.List.{get_or-map, length-map}
use Rattle.std.proofs.lemmas.Grind.{common_steps}
use Rattle.std.proofs.lemmas.List.Elements.{All-filter, All-map, filter_passes}
use Rattle.media_types.specs.declared.limits.TheConstants.{MAX_FILES}
use Rattle.relation_groups.specs.Clusters.{AgreeIn, outside}
use Rattle.relation_groups.specs.Kept.{AreKept, ReadsAs}
use Rattle.relation_groups.specs.Numbers.{has, is_of, pair_at, are_below, least_place}
use Rattle.relation_groups.specs.Reading.{relations_in, at, is_below, IsOfFirst, AreInOrder}
use Rattle.relation_groups.specs.Relations.{Relations, at_first, by_code, class_of, first_from}
use Rattle.media_types.specs.declared.decision.Code.{Code}
use Rattle.relation_groups.specs.ClosedLaws.{outside-split, patched-is}
use Rattle.relation_groups.specs.FirstLaws.{first_from-le, first_from-none, first_from-inside, first_from-ext, first_from-more}
use Rattle.relation_groups.proofs.Readings.{at-within, at-past, class-le}
use Rattle.relation_groups.specs.SplitLaws.{agree-trans, by_code-split, by_code-apart}
use Rattle.relation_groups.proofs.Writes.{get_or-set}

-- relations of the first files that agree on these
pub same-of_first : (n : ℕ) (P Q : Relations) → IsOfFirst n P → IsOfFirst n Q → AgreeIn (is_below n) P Q → P ≡ Q
same-of_first n P Q p q h =
    patched-is (is_below n) P Q at_first p.split h p.rest
    ∙ sym (patched-is (is_below n) Q Q at_first q.split (record { kings = λ f e. refl; classes = λ f g d e. refl; pairs = λ f g d e. refl }) q.rest)

is_of-below : (n c d : ℕ) (p : ℕ × ℕ) → (p.0 < n) × (p.1 < n) → is_of p c d ≡ true → (c < n) × (d < n)
is_of-below n c d p h e = (grind (arith, nat_tests), grind (arith, nat_tests))

has-below : (n c d : ℕ) (ps : List (ℕ × ℕ)) → All (λ p. (p.0 < n) × (p.1 < n)) ps → has ps c d ≡ true → (c < n) × (d < n)
has-below n c d [] h e = absurd (false≢true e)
has-below n c d (p ∷ ps) h e =
    ⊎_elim (is_of-below n c d p (h 0 p (omega arith)))
    (has-below n c d ps (λ k x hk. h (suc k) x (omega (arith, hk)))) (or_cases (is_of p c d) (has ps c d) e)

past-tells : (n f : ℕ) → outside (is_below n) f ≡ true → n ≤ f
past-tells n f h = ltb-false f n (not-true (is_below n f) h)

-- a number of a list below n stays on its side of n
at-side : (n : ℕ) (xs : List ℕ) (f : ℕ) → length xs ≡ n → ((k : ℕ) → k < n → at xs k < n) → is_below n (at xs f) ≡ is_below n f
at-side n xs f len h = grind (arith, nat_tests, at-past xs f, h f)

-- what is read from lists for the first n files is of these alone
pub read-of_first : (n : ℕ) (ks cs : List ℕ) (ps : List (ℕ × ℕ)) (spare : ℕ) → length ks ≡ n → length cs ≡ n
    → ((k : ℕ) → k < n → at ks k < n) → ((k : ℕ) → k < n → at cs k < n) → All (λ p. (p.0 < n) × (p.1 < n)) ps
    → IsOfFirst n (relations_in (record { kings = ks; classes = cs; pairs = ps; spare = spare }))
unfolding relations_in
read-of_first n ks cs ps spare hk hc king class pair =
    let side : (f : ℕ) → is_below n (at cs f) ≡ is_below n f = λ f. at-side n cs f hc class in
    let past : (f : ℕ) → outside (is_below n) f ≡ true → at cs f ≡ f = λ f p. at-past cs f (let le = past-tells n f p in omega (arith, le, hc)) in
    record {
      split = record {
        kings = λ f. at-side n ks f hk king;
        classes = λ f g e. sym (side f) ∙ ap (is_below n) ((Decides-eqb (at cs f) (at cs g)).0 e) ∙ side g;
        pairs = λ f g e.
            let b = has-below n (at cs f) (at cs g) ps pair e in
            sym (side f) ∙ lt-ltb (at cs f) n b.0 ∙ sym (lt-ltb (at cs g) n b.1) ∙ side g;
      };
      rest = record {
        kings = λ f p. at-past ks f (let le = past-tells n f p in omega (arith, le, hk));
        classes = λ f g p q. rw (past f p, past g q) refl;
        pairs = λ f g p q. false_from_ne_true (has ps (at cs f) (at cs g)) (λ e.
            let b = has-below n (at cs f) (at cs g) ps pair e in
            let s = past f p in let le = past-tells n f p in omega (arith, s, le, b.0));
      };
    }

-- a file that isn't one of the first names its own class
past-alike : (n f g : ℕ) (t : Bool) (R : Relations) → IsOfFirst n R → n ≤ f → g < f → is_below n g ≡ t → R.alike f g ≡ false
past-alike n f g true R h le lt e =
    false_from_ne_true (R.alike f g) (λ p. true≢false (sym e ∙ sym (h.split.classes f g p) ∙ le-ltb f n le))
past-alike n f g false R h le lt e = h.rest.classes f g (ap not (le-ltb f n le)) (ap not e) ∙ (grind (arith, nat_tests))

past-class : (n f : ℕ) (R : Relations) → IsOfFirst n R → n ≤ f → class_of R f ≡ f
past-class n f R h le = first_from-none (R.alike f) 0 f (λ g l u. past-alike n f g (is_below n g) R h le (omega (arith, u)) refl) ∙ zero-add f

-- the name of a label that a file has
least-first : (ls : List ℕ) (f : ℕ) → f < length ls
    → least_place ls (get_or ls f 0) ≡ first_from (λ g. get_or ls f 0 == get_or ls g 0) 0 f
least-first ls f h =
    first_from-more (λ g. get_or ls f 0 == get_or ls g 0) 0 f (length ls) h
    (let e : 0 + f ≡ f = omega arith in ap (λ k. get_or ls f 0 == get_or ls k 0) e ∙ eq-eqb (get_or ls f 0) (get_or ls f 0) refl)

least-le : (ls : List ℕ) (f : ℕ) → f < length ls → least_place ls (get_or ls f 0) ≤ f
least-le ls f h =
    let e = least-first ls f h in
    let b : first_from (λ g. get_or ls f 0 == get_or ls g 0) 0 f ≤ 0 + f = first_from-le (λ g. get_or ls f 0 == get_or ls g 0) 0 f in
    omega (arith, e, b)

least-has : (ls : List ℕ) (l : ℕ) → least_place ls l < length ls → l ≡ get_or ls (least_place ls l) 0
least-has ls l h =
    (Decides-eqb l (get_or ls (least_place ls l) 0)).0
    (first_from-inside (λ g. l == get_or ls g 0) 0 (length ls) (omega (arith, h)))

-- names tell labels apart, where one of the two is a file's
least-same : (ls : List ℕ) (k f : ℕ) → f < length ls → (least_place ls k == least_place ls (get_or ls f 0)) ≡ (k == get_or ls f 0)
least-same ls k f h =
    let l : ℕ = get_or ls f 0 in
    same_from_decides (least_place ls k == least_place ls l) (k == l) (Decides-eqb (least_place ls k) (least_place ls l)) (
      λ e. ap (least_place ls) ((Decides-eqb k l).0 e),
      λ e.
          let b = least-le ls f h in
          let one : k ≡ get_or ls (least_place ls k) 0 = least-has ls k (omega (arith, e, b, h)) in
          let other : l ≡ get_or ls (least_place ls l) 0 = least-has ls l (omega (arith, b, h)) in
          (Decides-eqb k l).1 (one ∙ ap (λ m. get_or ls m 0) e ∙ sym other),
    )

below-is_of : (n : ℕ) (p : ℕ × ℕ) (c d : ℕ) → c < n → d < n → (are_below n p && is_of p c d) ≡ is_of p c d
below-is_of n p c d hc hd = grind (arith, nat_tests)

-- what is read for the first n files, place by place
agree-named : (n : ℕ) (ks cs : List ℕ) (qs : List (ℕ × ℕ)) (spare : ℕ) (R : Relations)
    → ((f : ℕ) → f < n → at ks f ≡ R.king f)
    → ((f g : ℕ) → f < n → g < n → (at cs f == at cs g) ≡ R.alike f g)
    → ((f g : ℕ) → f < n → g < n → has qs (at cs f) (at cs g) ≡ R.unrelated f g)
    → AgreeIn (is_below n) (relations_in (record { kings = ks; classes = cs; pairs = qs; spare = spare })) R
unfolding relations_in
agree-named n ks cs qs spare R k a u = record {
  kings = λ f p. k f (ltb-true f n p);
  classes = λ f g p q. a f g (ltb-true f n p) (ltb-true g n q);
  pairs = λ f g p q. u f g (ltb-true f n p) (ltb-true g n q);
}

-- the pairs, once each label got its name and those of no file were dropped
is_of-named : (name : ℕ → ℕ) (n l m : ℕ) (p : ℕ × ℕ) → name l < n → name m < n
    → (name p.0 == name l) ≡ (p.0 == l) → (name p.1 == name l) ≡ (p.1 == l) → (name p.0 == name m) ≡ (p.0 == m) → (name p.1 == name m) ≡ (p.1 == m)
    → (are_below n (name p.0, name p.1) && is_of (name p.0, name p.1) (name l) (name m)) ≡ is_of p l m
is_of-named name n l m p hl hm a b c d =
    below-is_of n (name p.0, name p.1) (name l) (name m) hl hm ∙ (rw (a, b, c, d) refl)

kept-if : (kept : Bool) (p : ℕ × ℕ) (rest : List (ℕ × ℕ)) (x y : ℕ) → has (cond kept (p ∷ rest) rest) x y ≡ ((kept && is_of p x y) || has rest x y)
kept-if true p rest x y = refl
kept-if false p rest x y = refl

has-named : (names : List ℕ) (n l m : ℕ) (ps : List (ℕ × ℕ)) → at names l < n → at names m < n
    → All (λ p. ((at names p.0 == at names l) ≡ (p.0 == l)) × ((at names p.1 == at names l) ≡ (p.1 == l))
    × ((at names p.0 == at names m) ≡ (p.0 == m)) × ((at names p.1 == at names m) ≡ (p.1 == m))) ps
    → has (filter (are_below n) (map (pair_at names) ps)) (at names l) (at names m) ≡ has ps l m
has-named names n l m [] hl hm h = refl
has-named names n l m (p ∷ ps) hl hm h =
    let e = h 0 p (omega arith) in
    kept-if (are_below n (pair_at names p)) (pair_at names p) (filter (are_below n) (map (pair_at names) ps)) (at names l) (at names m)
    ∙ rw (
      is_of-named (at names) n l m p hl hm e.0 e.1 e.2 e.3,
      has-named names n l m ps hl hm (λ k x hk. h (suc k) x (omega (arith, hk))),
    ) refl

below-both : (n : ℕ) (p : ℕ × ℕ) → are_below n p ≡ true → (p.0 < n) × (p.1 < n)
below-both n p e = (grind (arith, nat_tests), grind (arith, nat_tests))

-- each pair that is left is below the bound
AreBelow-kept : (n : ℕ) (ps : List (ℕ × ℕ)) → All (λ p. (p.0 < n) × (p.1 < n)) (filter (are_below n) ps)
AreBelow-kept n ps =
    λ k d hk. below-both n (get_or (filter (are_below n) ps) k d) (filter_passes (are_below n) ps k d hk)

-- each pair that is left is of names
named-kept : (n next : ℕ) (names cs : List ℕ) (ps : List (ℕ × ℕ)) → All (λ p. (p.0 < next) × (p.1 < next)) ps
    → ((l : ℕ) → l < next → at names l < n → at cs (at names l) ≡ at names l)
    → All (λ p. (at cs p.0 ≡ p.0) × (at cs p.1 ≡ p.1)) (filter (are_below n) (map (pair_at names) ps))
named-kept n next names cs ps h own =
    let Named : ℕ × ℕ → Type 0 = λ p. are_below n p ≡ true → (at cs p.0 ≡ p.0) × (at cs p.1 ≡ p.1) in
    let each : All Named (map (pair_at names) ps) =
    All-map Named (pair_at names) ps (λ k d hk e.
    let b = h k d hk in
    let below = below-both n (pair_at names (get_or ps k d)) e in
    (own (get_or ps k d).0 b.0 below.0, own (get_or ps k d).1 b.1 below.1)) in
    λ k d hk. All-filter (are_below n) Named (map (pair_at names) ps) each k d hk (filter_passes (are_below n) (map (pair_at names) ps) k d hk)

-- the names are those of the classes
class-by_side : (n : ℕ) (ls cs : List ℕ) (R : Relations) → length ls ≡ n → length cs ≡ n
    → ((f : ℕ) → f < n → at cs f ≡ least_place ls (get_or ls f 0))
    → ((f g : ℕ) → f < n → g < n → (get_or ls f 0 == get_or ls g 0) ≡ R.alike f g) → IsOfFirst n R
    → (f : ℕ) (t : Bool) → is_below n f ≡ t → at cs f ≡ class_of R f
class-by_side n ls cs R hl hc least alike first f true e =
    let lt : f < n = ltb-true f n e in
    least f lt ∙ least-first ls f (omega (arith, lt, hl))
    ∙ first_from-ext (λ g. get_or ls f 0 == get_or ls g 0) (R.alike f) 0 f (λ g l u. alike f g lt (omega (arith, u, lt)))
class-by_side n ls cs R hl hc least alike first f false e =
    let le : n ≤ f = past-tells n f (ap not e) in
    at-past cs f (omega (arith, le, hc)) ∙ sym (past-class n f R first le)

pub named-reads : (n : ℕ) (ks ls names : List ℕ) (ps : List (ℕ × ℕ)) (next : ℕ) → n ≤ MAX_FILES → length ks ≡ n → length ls ≡ n → length names ≡ next
    → ((l : ℕ) → l < next → get_or names l 0 ≡ least_place ls l) → (R : Relations) → AreKept n ks ls ps next R → IsOfFirst n R
    → ReadsAs ks (map (at names) ls) (filter (are_below n) (map (pair_at names) ps)) R
named-reads n ks ls names ps next few hk hl hn least R h first =
    let cs : List ℕ = map (at names) ls in
    let qs : List (ℕ × ℕ) = filter (are_below n) (map (pair_at names) ps) in
    let hc : length cs ≡ n = length-map ls (at names) ∙ hl in
    let name : (l : ℕ) → l < next → at names l ≡ least_place ls l = λ l lt. at-within names l (omega (arith, lt, hn)) ∙ least l lt in
    let class : (f : ℕ) → f < n → at cs f ≡ at names (get_or ls f 0) =
    λ f lt. at-within cs f (omega (arith, lt, hc)) ∙ get_or-map (at names) ls f 0 0 (omega (arith, lt, hl)) in
    let class_least : (f : ℕ) → f < n → at cs f ≡ least_place ls (get_or ls f 0) = λ f lt. class f lt ∙ name (get_or ls f 0) (h.label f lt) in
    let class_le : (f : ℕ) → f < n → at cs f ≤ f =
    λ f lt. let e = class_least f lt in let b = least-le ls f (omega (arith, lt, hl)) in omega (arith, e, b) in
    let same : (k f : ℕ) → k < next → f < n → (at names k == at names (get_or ls f 0)) ≡ (k == get_or ls f 0) =
    λ k f hk hf. rw (name k hk, name (get_or ls f 0) (h.label f hf)) (least-same ls k f (omega (arith, hf, hl))) in
    let king : (f : ℕ) → f < n → at ks f < n =
    λ f lt. ltb-true (at ks f) n
    (ap (is_below n) (at-within ks f (omega (arith, lt, hk)) ∙ h.king f lt) ∙ first.split.kings f ∙ lt-ltb f n lt) in
    let name_below : (f : ℕ) → f < n → at names (get_or ls f 0) < n =
    λ f lt. let e = class f lt in let b = class_le f lt in omega (arith, e, b, lt) in
    let agree : (spare : ℕ) → AgreeIn (is_below n) (relations_in (record { kings = ks; classes = cs; pairs = qs; spare = spare })) R = λ spare.
    agree-named n ks cs qs spare R
    (λ f lt. at-within ks f (omega (arith, lt, hk)) ∙ h.king f lt)
    (λ f g hf hg. rw (class f hf, class g hg) (same (get_or ls f 0) g (h.label f hf) hg ∙ h.alike f g hf hg))
    (λ f g hf hg. rw (class f hf, class g hg)
    (has-named names n (get_or ls f 0) (get_or ls g 0) ps (name_below f hf) (name_below g hg)
    (λ k x hx.
    let b = h.pair k x hx in
    (same (get_or ps k x).0 f b.0 hf, same (get_or ps k x).1 f b.1 hf, same (get_or ps k x).0 g b.0 hg, same (get_or ps k x).1 g b.1 hg))
    ∙ h.unrelated f g hf hg)) in
    let read : (spare : ℕ) → relations_in (record { kings = ks; classes = cs; pairs = qs; spare = spare }) ≡ R = λ spare.
    same-of_first n (relations_in (record { kings = ks; classes = cs; pairs = qs; spare = spare })) R
    (read-of_first n ks cs qs spare hk hc king (λ f lt. let b = class_le f lt in omega (arith, b, lt)) (AreBelow-kept n (map (pair_at names) ps)))
    first (agree spare) in
    let class_at : (f : ℕ) (t : Bool) → is_below n f ≡ t → at cs f ≡ class_of R f =
    class-by_side n ls cs R (omega (arith, hl)) hc class_least (λ f g hf hg. h.alike f g hf hg) first in
    record {
      order = record {
        few = omega (arith, few, hk);
        one_each = hc ∙ sym hk;
        king = rw hk (λ k d hd. let e = at-within ks k (omega (arith, hd, hk)) in let b = king k (omega (arith, hd, hk)) in grind (arith, common_steps));
        pair = rw hk (AreBelow-kept n (map (pair_at names) ps));
        named = named-kept n next names cs ps h.pair
            (λ l lt below.
            let e = name l lt in
            let has = least-has ls l (omega (arith, e, below, hl)) in
            class (at names l) below ∙ ap (λ m. at names (get_or ls m 0)) e ∙ ap (at names) (sym has));
        class = λ f. class_at f (is_below n f) refl ∙ ap (λ P. class_of P f) (sym (read 0));
      };
      read = read;
    }

-- one more place, before those that are done
pub least-step : (ls places : List ℕ) (k m n : ℕ) → get_or ls k 0 < length places
    → get_or places m 0 ≡ first_from (λ g. m == get_or ls g 0) (suc k) n
    → get_or (set places (get_or ls k 0) k) m 0 ≡ first_from (λ g. m == get_or ls g 0) k (suc n)
least-step ls places k m n h e = get_or-set places (get_or ls k 0) k m 0 h ∙ ap (cond (m == get_or ls k 0) k) e

-- lists in order hold what is read from them
pub order-holds : (ks cs : List ℕ) (ps : List (ℕ × ℕ)) (spare n : ℕ) → length ks ≡ n → AreInOrder ks cs ps
    → AreKept n ks cs ps n (relations_in (record { kings = ks; classes = cs; pairs = ps; spare = spare }))
    × IsOfFirst n (relations_in (record { kings = ks; classes = cs; pairs = ps; spare = spare }))
unfolding relations_in
order-holds ks cs ps spare n hk h =
    let hc : length cs ≡ n = h.one_each ∙ hk in
    let king : (f : ℕ) → f < n → at ks f ≡ get_or ks f 0 = λ f lt. at-within ks f (omega (arith, lt, hk)) in
    let class : (f : ℕ) → f < n → at cs f ≡ get_or cs f 0 = λ f lt. at-within cs f (omega (arith, lt, hc)) in
    let class_below : (f : ℕ) → f < n → at cs f < n = λ f lt. let b = class-le ks cs ps f h in omega (arith, b, lt) in
    let pair : All (λ p. (p.0 < n) × (p.1 < n)) ps = λ k d hd. let b = h.pair k d hd in (omega (arith, b.0, hk), omega (arith, b.1, hk)) in (
      record {
        king = λ f lt. sym (king f lt);
        alike = λ f g hf hg. rw (class f hf, class g hg) refl;
        unrelated = λ f g hf hg. rw (class f hf, class g hg) refl;
        label = λ f lt. let e = class f lt in let b = class_below f lt in omega (arith, e, b);
        pair = pair;
      },
      read-of_first n ks cs ps spare hk hc
          (λ f lt. let e = king f lt in let b = h.king f 0 (omega (arith, lt, hk)) in omega (arith, e, b, hk)) class_below pair,
    )

-- a decision of the first files touches no other
pub decided-of_first : (n : ℕ) (code : Code) (a b : ℕ) (R : Relations) → a < n → b < n → IsOfFirst n R → IsOfFirst n (by_code code a b R)
decided-of_first n code a b R ha hb h =
    let S : ℕ → Bool = is_below n in
    let ta : S a ≡ true = lt-ltb a n ha in
    let tb : S b ≡ true = lt-ltb b n hb in
    record {
      split = by_code-split code S a b R (ta ∙ sym tb) h.split;
      rest = agree-trans (outside S) (by_code code a b R) R at_first
          (by_code-apart code (outside S) a b R (ap not ta) (ap not tb) (outside-split S R h.split)) h.rest;
    }

-- What decisions do to a set of files that is closed under them.
use Rattle.std.proofs.Common.{◌≡◌, ◌∙◌, ℕ, ◌&&◌, not, Bool, true, false, cond, List, [], ◌∷◌, refl, sym, ap, arith}
use Rattle.std.proofs.Math.Path.{fun_ext}
use Rattle.std.proofs.lemmas.Bool.{false≢true}
use Rattle.std.proofs.lemmas.List.Elements.{All-filter, All-tail}
use Rattle.std.proofs.lemmas.Bool.Decides.{nat_tests}
use Rattle.media_types.specs.declared.decision.Decision.{Decision}
use Rattle.relation_groups.specs.Relations.{Relations, at_first, decided, after, relations, first_from, class_of}
use Rattle.relation_groups.specs.Clusters.{AgreeIn, IsClosed, IsSplitBy, IsWithin, outside, patched, touching}
use Rattle.relation_groups.specs.Laws.{ClosedSetsSplit}
use Rattle.relation_groups.specs.SplitLaws.{agree-refl, agree-sym, agree-trans, by_code-split, by_code-same, by_code-apart}

pub at_first-split : (S : ℕ → Bool) → IsSplitBy S at_first
at_first-split S = record {
  kings = λ f. refl;
  classes = λ f g p. grind (arith, nat_tests);
  pairs = λ f g p. absurd (false≢true p);
}

pub after-split : (S : ℕ → Bool) (ds : List Decision) (R : Relations) → IsClosed S ds → IsSplitBy S R → IsSplitBy S (after R ds)
after-split S [] R c h = h
after-split S (d ∷ ds) R c h =
    after-split S ds (decided d R) (All-tail (λ e. S e.a.0 ≡ S e.b.0) d ds c) (by_code-split d.code S d.a.0 d.b.0 R (c 0 d (omega arith)) h)

-- one decision, made on one side alone where it isn't of the set; `rest` is of the decisions after it
fold-step : (t : Bool) (S : ℕ → Bool) (d : Decision) (ds : List Decision) (Q R : Relations) → S d.a.0 ≡ t → S d.b.0 ≡ t
    → ((V W : Relations) → IsSplitBy S W → AgreeIn S V W → AgreeIn S (after V (touching S ds)) (after W ds))
    → IsSplitBy S (decided d R) → IsSplitBy S R → AgreeIn S Q R
    → AgreeIn S (after Q (cond t (d ∷ touching S ds) (touching S ds))) (after (decided d R) ds)
fold-step true S d ds Q R s t rest j k h = rest (decided d Q) (decided d R) j (by_code-same d.code S d.a.0 d.b.0 Q R s t h)
fold-step false S d ds Q R s t rest j k h =
    rest Q (decided d R) j (agree-trans S Q R (decided d R) h (agree-sym S (decided d R) R (by_code-apart d.code S d.a.0 d.b.0 R s t k)))

pub fold-agrees : (S : ℕ → Bool) (ds : List Decision) (Q R : Relations) → IsClosed S ds → IsSplitBy S R → AgreeIn S Q R
    → AgreeIn S (after Q (touching S ds)) (after R ds)
fold-agrees S [] Q R c k h = h
fold-agrees S (d ∷ ds) Q R c k h =
    let both : S d.a.0 ≡ S d.b.0 = c 0 d (omega arith) in
    let later : IsClosed S ds = All-tail (λ e. S e.a.0 ≡ S e.b.0) d ds c in
    fold-step (S d.a.0) S d ds Q R refl (sym both) (λ V W. fold-agrees S ds V W later)
    (by_code-split d.code S d.a.0 d.b.0 R both k) k h

-- a part of a list for which a set is closed
touching-closed : (S T : ℕ → Bool) (ds : List Decision) → IsClosed S ds → IsClosed S (touching T ds)
touching-closed S T ds c = All-filter (λ d. T d.a.0) (λ d. S d.a.0 ≡ S d.b.0) ds c

-- a class of the set is the same where it agrees
cross : (v w s t : Bool) → s ≡ true → (v ≡ true → s ≡ t) → (w ≡ true → s ≡ t) → (t ≡ true → v ≡ w) → v ≡ w
cross true true s t p q r e = refl
cross true false s t p q r e = e (sym (q refl) ∙ p)
cross false true s t p q r e = e (sym (r refl) ∙ p)
cross false false s t p q r e = refl

class_of-agrees : (S : ℕ → Bool) (Q R : Relations) (f : ℕ) → IsSplitBy S Q → IsSplitBy S R → AgreeIn S Q R → S f ≡ true → class_of Q f ≡ class_of R f
class_of-agrees S Q R f j k h p =
    let same : Q.alike f ≡ R.alike f =
    fun_ext (λ g. cross (Q.alike f g) (R.alike f g) (S f) (S g) p (j.classes f g) (k.classes f g) (h.classes f g p)) in
    ap (λ test. first_from test 0 f) same

pub fold-alone : (S : ℕ → Bool) (ds : List Decision) → IsClosed S ds
    → AgreeIn S (relations (touching S ds)) (relations ds)
    × ((f : ℕ) → S f ≡ true → class_of (relations (touching S ds)) f ≡ class_of (relations ds) f)
fold-alone S ds c =
    let agree : AgreeIn S (relations (touching S ds)) (relations ds) =
    fold-agrees S ds at_first at_first c (at_first-split S) (agree-refl S at_first) in (
      agree,
      λ f p. class_of-agrees S (relations (touching S ds)) (relations ds) f
          (after-split S (touching S ds) at_first (touching-closed S S ds c) (at_first-split S))
          (after-split S ds at_first c (at_first-split S)) agree p,
    )

-- relations that a set splits are those inside it, patched into those outside
king-patched : (s : Bool) (p q r : ℕ) → (s ≡ true → p ≡ q) → (not s ≡ true → p ≡ r) → p ≡ cond s q r
king-patched true p q r h k = h refl
king-patched false p q r h k = k refl

test-patched : (s t p q r : Bool) → (p ≡ true → s ≡ t) → (s ≡ true → t ≡ true → p ≡ q) → (not s ≡ true → not t ≡ true → p ≡ r)
    → p ≡ cond s (t && q) (not t && r)
test-patched true true p q r c h k = h refl refl
test-patched true false true q r c h k = absurd (false≢true (sym (c refl)))
test-patched true false false q r c h k = refl
test-patched false true true q r c h k = absurd (false≢true (c refl))
test-patched false true false q r c h k = refl
test-patched false false p q r c h k = k refl refl

relations-ext : (Q R : Relations) → Q.king ≡ R.king → Q.alike ≡ R.alike → Q.unrelated ≡ R.unrelated → Q ≡ R
relations-ext Q R k a u =
    let make : (ℕ → ℕ) → (ℕ → ℕ → Bool) → (ℕ → ℕ → Bool) → Relations = λ k a u. record { king = k; alike = a; unrelated = u } in
    ap (λ x. make x Q.alike Q.unrelated) k ∙ ap (λ x. make R.king x Q.unrelated) a ∙ ap (make R.king R.alike) u

pub patched-is : (S : ℕ → Bool) (P Q R : Relations) → IsSplitBy S P → AgreeIn S P Q → AgreeIn (outside S) P R → P ≡ patched S Q R
patched-is S P Q R c h k =
    relations-ext P (patched S Q R)
    (fun_ext (λ f. king-patched (S f) (P.king f) (Q.king f) (R.king f) (h.kings f) (k.kings f)))
    (fun_ext (λ f. fun_ext (λ g. test-patched (S f) (S g) (P.alike f g) (Q.alike f g) (R.alike f g) (c.classes f g) (h.classes f g) (k.classes f g))))
    (fun_ext (λ f. fun_ext (λ g. test-patched (S f) (S g) (P.unrelated f g) (Q.unrelated f g) (R.unrelated f g) (c.pairs f g) (h.pairs f g) (k.pairs f g))))

pub outside-closed : (S : ℕ → Bool) (ds : List Decision) → IsClosed S ds → IsClosed (outside S) ds
outside-closed S ds c = λ k e hk. ap not (c k e hk)

pub others-stay : (S : ℕ → Bool) (ds es : List Decision) → IsClosed S ds → IsClosed S es
    → touching (outside S) ds ≡ touching (outside S) es → relations es ≡ patched S (relations (touching S es)) (relations ds)
others-stay S ds es c d e =
    let O : ℕ → Bool = outside S in
    let these : AgreeIn O (relations (touching O es)) (relations es) = (fold-alone O es (outside-closed S es d)).0 in
    let those : AgreeIn O (relations (touching O es)) (relations ds) =
    rw e at (fold-alone O ds (outside-closed S ds c)).0 in
    patched-is S (relations es) (relations (touching S es)) (relations ds)
    (after-split S es at_first d (at_first-split S))
    (agree-sym S (relations (touching S es)) (relations es) (fold-alone S es d).0)
    (agree-trans O (relations es) (relations (touching O es)) (relations ds)
    (agree-sym O (relations (touching O es)) (relations es) these) those)

-- decisions within the set, made after any relations
within-same : (S : ℕ → Bool) (ds : List Decision) (Q R : Relations) → IsWithin S ds → AgreeIn S Q R → AgreeIn S (after Q ds) (after R ds)
within-same S [] Q R w h = h
within-same S (d ∷ ds) Q R w h =
    let both = w 0 d (omega arith) in
    within-same S ds (decided d Q) (decided d R) (All-tail (λ e. (S e.a.0 ≡ true) × (S e.b.0 ≡ true)) d ds w)
    (by_code-same d.code S d.a.0 d.b.0 Q R both.0 both.1 h)

pub within-closed : (S : ℕ → Bool) (ds : List Decision) → IsWithin S ds → IsClosed S ds
within-closed S ds w = λ k e hk. (w k e hk).0 ∙ sym (w k e hk).1

within-apart : (S : ℕ → Bool) (ds : List Decision) (R : Relations) → IsWithin S ds → IsSplitBy (outside S) R → AgreeIn (outside S) (after R ds) R
within-apart S [] R w h = agree-refl (outside S) R
within-apart S (d ∷ ds) R w h =
    let both = w 0 d (omega arith) in
    let rest : IsWithin S ds = All-tail (λ e. (S e.a.0 ≡ true) × (S e.b.0 ≡ true)) d ds w in
    let a : outside S d.a.0 ≡ false = ap not both.0 in
    let b : outside S d.b.0 ≡ false = ap not both.1 in
    agree-trans (outside S) (after (decided d R) ds) (decided d R) R
    (within-apart S ds (decided d R) rest (by_code-split d.code (outside S) d.a.0 d.b.0 R (a ∙ sym b) h))
    (by_code-apart d.code (outside S) d.a.0 d.b.0 R a b h)

pub outside-split : (S : ℕ → Bool) (R : Relations) → IsSplitBy S R → IsSplitBy (outside S) R
outside-split S R h = record {
  kings = λ f. ap not (h.kings f);
  classes = λ f g p. ap not (h.classes f g p);
  pairs = λ f g p. ap not (h.pairs f g p);
}

-- decisions within the set change its files alone
pub within-patched : (S : ℕ → Bool) (ds : List Decision) (P Q R : Relations) → IsWithin S ds → IsSplitBy S P → AgreeIn S P Q → AgreeIn (outside S) P R
    → after P ds ≡ patched S (after Q ds) R
within-patched S ds P Q R w c h k =
    patched-is S (after P ds) (after Q ds) R (after-split S ds P (within-closed S ds w) c)
    (within-same S ds P Q w h)
    (agree-trans (outside S) (after P ds) P R (within-apart S ds P w (outside-split S P c)) k)

pub closed-split : ClosedSetsSplit
closed-split S ds closed = after-split S ds at_first closed (at_first-split S)

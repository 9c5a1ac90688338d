-- Each step keeps relations sound.
use Rattle.std.proofs.Common.{◌≡◌, ◌≢◌, ◌∙◌, ℕ, suc, ◌==◌, ◌&&◌, ◌||◌, not, Bool, true, false, cond, List, [], ◌∷◌, refl, sym, ap, arith}
use Rattle.std.proofs.lemmas.Bool.{or_left}
use Rattle.std.proofs.lemmas.Bool.Decides.{nat_tests}
use Rattle.media_types.specs.declared.decision.Code.{Code}
use Rattle.media_types.specs.declared.decision.Code.TheVariants.{NotRelated, Same, Alternates, Better}
use Rattle.media_types.specs.declared.decision.Decision.{Decision}
use Rattle.relation_groups.specs.Relations.{Relations, at_first, of_one_group, is_king, leaves, in_either, classes_joined, join_classes, gets_king, group_joins, classes_parted, better, same, alternates, not_related, by_code, decided, after, relations}
use Rattle.relation_groups.specs.Laws.{AreSound, AreOfTwo}

pub at_first-sound : AreSound at_first
at_first-sound = record {
  crowned = λ f. refl;
  gathered = λ f. grind (arith, nat_tests);
  reflexive = λ f. grind (arith, nat_tests);
  symmetric = λ f g. grind (arith, nat_tests);
  chained = λ f g k p. grind (arith, nat_tests);
  both_ways = λ f g. refl;
  apart = λ f g p. refl;
  carried = λ f g k p. refl;
}

if-sound : (b : Bool) (P Q : Relations) → (b ≡ true → AreSound P) → (b ≡ false → AreSound Q) → AreSound (cond b P Q)
if-sound true P Q p q = p refl
if-sound false P Q p q = q refl

-- a file leaves that is no king
leaves-crowned : (R : Relations) (x f : ℕ) → (R.king x == x) ≡ false → R.king (R.king f) ≡ R.king f
    → (leaves x R).king ((leaves x R).king f) ≡ (leaves x R).king f
leaves-crowned R x f n h = grind (arith, nat_tests)

leaves-gathered : (t : Bool) (R : Relations) (x f : ℕ) → (f == x) ≡ t → (R.king x == x) ≡ false
    → R.king (R.king f) ≡ R.king f → R.alike f (R.king f) ≡ true
    → cond (t || (cond t x (R.king f) == x)) (f == cond t x (R.king f)) (R.alike f (cond t x (R.king f))) ≡ true
leaves-gathered true R x f p n h q = p
leaves-gathered false R x f p n h q =
    let other : (R.king f == x) ≡ false = grind (arith, nat_tests) in
    rw (other, q) refl

leaves-sound : (x : ℕ) (R : Relations) → AreSound R → is_king R x ≡ false → AreSound (leaves x R)
leaves-sound x R h n = record {
  crowned = λ f. leaves-crowned R x f n (h.crowned f);
  gathered = λ f. leaves-gathered (f == x) R x f refl n (h.crowned f) (h.gathered f);
  reflexive = λ f. grind (arith, nat_tests, h.reflexive f);
  symmetric = λ f g. grind (arith, nat_tests, h.symmetric f g);
  chained = λ f g k p. grind (arith, nat_tests, h.chained f g k);
  both_ways = λ f g. grind (arith, nat_tests, h.both_ways f g);
  apart = λ f g p. grind (arith, nat_tests, h.apart f g);
  carried = λ f g k p. grind (arith, nat_tests, h.carried f g k);
}

-- the classes of a and b become one
alike-carried : (R : Relations) (a f g : ℕ) → AreSound R → R.alike f g ≡ true → R.alike a f ≡ R.alike a g
alike-carried R a f g h p = h.symmetric a f ∙ h.chained f g a p ∙ sym (h.symmetric a g)

in_either-carried : (R : Relations) (a b f g : ℕ) → AreSound R → R.alike f g ≡ true → in_either a b R f ≡ in_either a b R g
in_either-carried R a b f g h p = rw (alike-carried R a f g h p, alike-carried R b f g h p) refl

joined-chained : (fg ef eg ek fk gk : Bool) → (fg || (ef && eg)) ≡ true
    → (fg ≡ true → ef ≡ eg) → (fg ≡ true → fk ≡ gk) → (fk ≡ true → ef ≡ ek) → (gk ≡ true → eg ≡ ek)
    → (fk || (ef && ek)) ≡ (gk || (eg && ek))
joined-chained true true true ek fk gk j p q r s = grind arith
joined-chained true true false ek fk gk j p q r s = grind arith
joined-chained true false true ek fk gk j p q r s = grind arith
joined-chained true false false ek fk gk j p q r s = grind arith
joined-chained false true true ek fk gk j p q r s = grind arith
joined-chained false true false ek fk gk j p q r s = grind arith
joined-chained false false eg ek fk gk j p q r s = grind arith

joined-both_ways : (ef eg a1 b1 a2 b2 a3 b3 a4 b4 fg gf : Bool) → a1 ≡ a2 → b1 ≡ b2 → a3 ≡ a4 → b3 ≡ b4 → fg ≡ gf
    → cond ef (not eg && (a1 || b1)) (cond eg (a3 || b3) fg) ≡ cond eg (not ef && (a4 || b4)) (cond ef (a2 || b2) gf)
joined-both_ways true true a1 b1 a2 b2 a3 b3 a4 b4 fg gf p q r s t = refl
joined-both_ways true false a1 b1 a2 b2 a3 b3 a4 b4 fg gf p q r s t = rw (p, q) refl
joined-both_ways false true a1 b1 a2 b2 a3 b3 a4 b4 fg gf p q r s t = rw (r, s) refl
joined-both_ways false false a1 b1 a2 b2 a3 b3 a4 b4 fg gf p q r s t = t

joined-apart : (fg ef eg u v w : Bool) → (fg || (ef && eg)) ≡ true → (fg ≡ true → ef ≡ eg) → (fg ≡ true → w ≡ false)
    → cond ef (not eg && u) (cond eg v w) ≡ false
joined-apart fg true true u v w j p q = refl
joined-apart true true false u v w j p q = grind arith
joined-apart true false true u v w j p q = grind arith
joined-apart true false false u v w j p q = q refl
joined-apart false true false u v w j p q = grind arith
joined-apart false false eg u v w j p q = grind arith

joined-carried : (fg ef eg ek u v1 v2 w1 w2 : Bool) → (fg || (ef && eg)) ≡ true → (fg ≡ true → ef ≡ eg)
    → (fg ≡ true → v1 ≡ v2) → (fg ≡ true → w1 ≡ w2)
    → cond ef (not ek && u) (cond ek v1 w1) ≡ cond eg (not ek && u) (cond ek v2 w2)
joined-carried fg true true ek u v1 v2 w1 w2 j p q r = refl
joined-carried true true false ek u v1 v2 w1 w2 j p q r = grind arith
joined-carried true false true ek u v1 v2 w1 w2 j p q r = grind arith
joined-carried true false false ek u v1 v2 w1 w2 j p q r = rw (q refl, r refl) refl
joined-carried false true false ek u v1 v2 w1 w2 j p q r = grind arith
joined-carried false false eg ek u v1 v2 w1 w2 j p q r = grind arith

joined-symmetric : (fg gf ef eg : Bool) → fg ≡ gf → (fg || (ef && eg)) ≡ (gf || (eg && ef))
joined-symmetric fg gf true true p = rw p refl
joined-symmetric fg gf true false p = rw p refl
joined-symmetric fg gf false true p = rw p refl
joined-symmetric fg gf false false p = rw p refl

classes_joined-sound : (a b : ℕ) (R : Relations) → AreSound R → AreSound (classes_joined a b R)
classes_joined-sound a b R h =
    let e : ℕ → Bool = in_either a b R in
    record {
      crowned = h.crowned;
      gathered = λ f. or_left (R.alike f (R.king f)) (e f && e (R.king f)) (h.gathered f);
      reflexive = λ f. or_left (R.alike f f) (e f && e f) (h.reflexive f);
      symmetric = λ f g. joined-symmetric (R.alike f g) (R.alike g f) (e f) (e g) (h.symmetric f g);
      chained = λ f g k j. joined-chained (R.alike f g) (e f) (e g) (e k) (R.alike f k) (R.alike g k) j
          (in_either-carried R a b f g h) (h.chained f g k) (in_either-carried R a b f k h) (in_either-carried R a b g k h);
      both_ways = λ f g. joined-both_ways (e f) (e g) (R.unrelated a g) (R.unrelated b g) (R.unrelated g a) (R.unrelated g b)
          (R.unrelated f a) (R.unrelated f b) (R.unrelated a f) (R.unrelated b f) (R.unrelated f g) (R.unrelated g f)
          (h.both_ways a g) (h.both_ways b g) (h.both_ways f a) (h.both_ways f b) (h.both_ways f g);
      apart = λ f g j. joined-apart (R.alike f g) (e f) (e g) (R.unrelated a g || R.unrelated b g) (R.unrelated f a || R.unrelated f b) (R.unrelated f g) j
          (in_either-carried R a b f g h) (h.apart f g);
      carried = λ f g k j. joined-carried (R.alike f g) (e f) (e g) (e k) (R.unrelated a k || R.unrelated b k)
          (R.unrelated f a || R.unrelated f b) (R.unrelated g a || R.unrelated g b) (R.unrelated f k) (R.unrelated g k) j
          (in_either-carried R a b f g h) (λ p. rw (h.carried f g a p, h.carried f g b p) refl) (h.carried f g k);
    }

join_classes-sound : (a b : ℕ) (R : Relations) → AreSound R → AreSound (join_classes a b R)
join_classes-sound a b R h = if-sound (R.alike a b) R (classes_joined a b R) (λ _. h) (λ _. classes_joined-sound a b R h)

joined_if-king : (v : Bool) (a b : ℕ) (R : Relations) (f : ℕ) → (cond v R (classes_joined a b R)).king f ≡ R.king f
joined_if-king true a b R f = refl
joined_if-king false a b R f = refl

joined_if-alike : (v : Bool) (a b : ℕ) (R : Relations) → AreSound R → R.alike a b ≡ v → (cond v R (classes_joined a b R)).alike a b ≡ true
joined_if-alike true a b R h p = p
joined_if-alike false a b R h p = rw (p, h.reflexive a, h.reflexive b) refl

-- a group gets a king
gets_king-crowned : (t : Bool) (x k : ℕ) (J : Relations) (f : ℕ) → (J.king f == J.king x) ≡ t → J.king (J.king f) ≡ J.king f
    → (gets_king x k J).king k ≡ k → (gets_king x k J).king ((gets_king x k J).king f) ≡ (gets_king x k J).king f
gets_king-crowned true x k J f p h q = rw (p, q) refl
gets_king-crowned false x k J f p h q = rw (p, h, p) refl

gets_king-gathered : (t : Bool) (x k : ℕ) (J : Relations) (f : ℕ) → AreSound J → (J.king f == J.king x) ≡ t → J.alike x k ≡ true
    → J.alike f ((gets_king x k J).king f) ≡ true
gets_king-gathered true x k J f h p q =
    let same : J.king f ≡ J.king x = grind (arith, nat_tests) in
    rw p (h.chained f (J.king f) k (h.gathered f) ∙ ap (λ m. J.alike m k) same ∙ sym (h.chained x (J.king x) k (h.gathered x)) ∙ q)
gets_king-gathered false x k J f h p q = rw p (h.gathered f)

gets_king-sound : (x k : ℕ) (J : Relations) → AreSound J → J.alike x k ≡ true → (gets_king x k J).king k ≡ k → AreSound (gets_king x k J)
gets_king-sound x k J h alike own = record {
  crowned = λ f. gets_king-crowned (J.king f == J.king x) x k J f refl (h.crowned f) own;
  gathered = λ f. gets_king-gathered (J.king f == J.king x) x k J f h refl alike;
  reflexive = h.reflexive;
  symmetric = h.symmetric;
  chained = h.chained;
  both_ways = h.both_ways;
  apart = h.apart;
  carried = h.carried;
}

cond-same : (t : Bool) (k m : ℕ) → m ≡ k → cond t k m ≡ k
cond-same true k m e = refl
cond-same false k m e = e

group_joins-sound : (x y : ℕ) (R : Relations) → AreSound R → AreSound (group_joins x y R)
group_joins-sound x y R h =
    let J : Relations = join_classes y x R in
    let j : AreSound J = join_classes-sound y x R h in
    let same : (f : ℕ) → J.king f ≡ R.king f = joined_if-king (R.alike y x) y x R in
    let one : J.alike y x ≡ true = joined_if-alike (R.alike y x) y x R h refl in
    let with : J.alike x (R.king y) ≡ true =
    sym (j.chained y x (R.king y) one) ∙ ap (J.alike y) (sym (same y)) ∙ j.gathered y in
    gets_king-sound x (R.king y) J j with (cond-same _ (R.king y) _ (same (R.king y) ∙ h.crowned y))

-- the classes of a and b are made a pair
parted-both_ways : (fg gf af ag bf bg : Bool) → fg ≡ gf
    → (fg || ((af && bg) || (bf && ag))) ≡ (gf || ((ag && bf) || (bg && af)))
parted-both_ways fg gf true true true true p = rw p refl
parted-both_ways fg gf true ag true bg p = rw p (grind arith)
parted-both_ways fg gf true ag false bg p = rw p (grind arith)
parted-both_ways fg gf false ag true bg p = rw p (grind arith)
parted-both_ways fg gf false ag false bg p = rw p (grind arith)

-- a file is of one of two classes only
of_one_class : (v : Bool) (a b g : ℕ) (R : Relations) → AreSound R → R.alike a b ≡ false → R.alike a g ≡ v → (v && R.alike b g) ≡ false
of_one_class true a b g R h n p = h.symmetric b g ∙ sym (h.chained a g b p) ∙ n
of_one_class false a b g R h n p = refl

parted-apart : (fg ag bg : Bool) → fg ≡ false → (ag && bg) ≡ false → (fg || ((ag && bg) || (bg && ag))) ≡ false
parted-apart fg true true p q = rw p q
parted-apart fg true false p q = rw p refl
parted-apart fg false true p q = rw p refl
parted-apart fg false false p q = rw p refl

classes_parted-sound : (a b : ℕ) (R : Relations) → AreSound R → R.alike a b ≡ false → AreSound (classes_parted a b R)
classes_parted-sound a b R h n = record {
  crowned = h.crowned;
  gathered = h.gathered;
  reflexive = h.reflexive;
  symmetric = h.symmetric;
  chained = h.chained;
  both_ways = λ f g. parted-both_ways (R.unrelated f g) (R.unrelated g f) (R.alike a f) (R.alike a g) (R.alike b f) (R.alike b g) (h.both_ways f g);
  apart = λ f g p. rw (alike-carried R a f g h p, alike-carried R b f g h p)
      (parted-apart (R.unrelated f g) (R.alike a g) (R.alike b g) (h.apart f g p) (of_one_class (R.alike a g) a b g R h n refl));
  carried = λ f g k p. rw (h.carried f g k p, alike-carried R a f g h p, alike-carried R b f g h p) refl;
}

better-sound : (a b : ℕ) (R : Relations) → AreSound R → AreSound (better a b R)
better-sound a b R h =
    if-sound (of_one_group R a b) (cond (is_king R b) (gets_king a a R) R) (group_joins b a (cond (is_king R b) R (leaves b R)))
    (λ _. if-sound (is_king R b) (gets_king a a R) R (λ _. gets_king-sound a a R h (h.reflexive a) (grind (arith, nat_tests))) (λ _. h))
    (λ _. group_joins-sound b a (cond (is_king R b) R (leaves b R)) (if-sound (is_king R b) R (leaves b R) (λ _. h) (leaves-sound b R h)))

same-sound : (a b : ℕ) (R : Relations) → AreSound R → AreSound (same a b R)
same-sound a b R h =
    if-sound (of_one_group R a b) R (cond (is_king R b) (group_joins b a R) (cond (is_king R a) (group_joins a b R) (group_joins b a (leaves b R))))
    (λ _. h)
    (λ _. if-sound (is_king R b) (group_joins b a R) (cond (is_king R a) (group_joins a b R) (group_joins b a (leaves b R)))
    (λ _. group_joins-sound b a R h)
    (λ n. if-sound (is_king R a) (group_joins a b R) (group_joins b a (leaves b R))
    (λ _. group_joins-sound a b R h)
    (λ _. group_joins-sound b a (leaves b R) (leaves-sound b R h n))))

-- of two files of one group the one that leaves is no king
leaver-is_king : (t : Bool) (a b : ℕ) (R : Relations) → a ≢ b → of_one_group R a b ≡ true → is_king R b ≡ t → is_king R (cond t a b) ≡ false
leaver-is_king true a b R two one p = grind (arith, nat_tests)
leaver-is_king false a b R two one p = p

alternates-sound : (a b : ℕ) (R : Relations) → a ≢ b → AreSound R → AreSound (alternates a b R)
alternates-sound a b R two h =
    if-sound (of_one_group R a b) (join_classes a b (leaves (cond (is_king R b) a b) R)) (join_classes a b R)
    (λ one. join_classes-sound a b (leaves (cond (is_king R b) a b) R)
    (leaves-sound (cond (is_king R b) a b) R h (leaver-is_king (is_king R b) a b R two one refl)))
    (λ _. join_classes-sound a b R h)

not_related-sound : (a b : ℕ) (R : Relations) → AreSound R → AreSound (not_related a b R)
not_related-sound a b R h = if-sound (R.alike a b) R (classes_parted a b R) (λ _. h) (classes_parted-sound a b R h)

by_code-sound : (code : Code) (a b : ℕ) (R : Relations) → a ≢ b → AreSound R → AreSound (by_code code a b R)
by_code-sound NotRelated a b R two h = not_related-sound a b R h
by_code-sound Same a b R two h = same-sound a b R h
by_code-sound Alternates a b R two h = alternates-sound a b R two h
by_code-sound Better a b R two h = better-sound a b R h

pub after-sound : (ds : List Decision) (R : Relations) → AreSound R → AreOfTwo ds → AreSound (after R ds)
after-sound [] R h two = h
after-sound (d ∷ ds) R h two =
    after-sound ds (decided d R) (by_code-sound d.code d.a.0 d.b.0 R (two 0 d (omega arith)) h) (λ k e hk. two (suc k) e (omega (arith, hk)))

-- the relations that decisions of two files make are sound
pub relations-sound : (ds : List Decision) → AreOfTwo ds → AreSound (relations ds)
relations-sound ds two = after-sound ds at_first at_first-sound two

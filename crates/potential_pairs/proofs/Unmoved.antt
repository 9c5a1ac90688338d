-- Two files that a move of the groups leaves where they are name the same potential pair before and after.
use Rattle.std.proofs.Common.{◌≡◌, ◌∙◌, ◌<◌, ◌==◌, ◌&&◌, ◌||◌, ℕ, Bool, true, false, cond, not, nat_lt, List, [], ◌∷◌, Option, Some, None, map, filter, get_or, refl, sym, ap, arith}
use Rattle.std.specs.List.{list_any, slice_get}
use Rattle.std.proofs.lemmas.Bool.{eq-eqb, eqb-true, false_from_ne_true, not-false, or_parts}
use Rattle.std.proofs.lemmas.List.FromFn.{get_or-map-range_with_len, length-map-range_with_len}
use Rattle.std.proofs.lemmas.Map.Keys.{any_passes_from_place}
use Rattle.std.proofs.lemmas.Option.{slice_get-get_or}
use Rattle.media_types.specs.Numbered.{files}
use Rattle.media_types.specs.declared.numbers.FileNo.{FileNo}
use Rattle.relation_groups.specs.FirstLaws.{first_from-le}
use Rattle.relation_groups.specs.Laws.{AreNamed, AreSound}
use Rattle.relation_groups.specs.Moves.{differ, is_moved, move_to, moves, pairs_differ}
use Rattle.relation_groups.specs.Reading.{names_unrelated}
use Rattle.relation_groups.specs.Relations.{Relations, class_of, is_king}
use Rattle.relation_groups.specs.declared.moves.Move.{Move}
use Rattle.potential_pairs.specs.Naming.{name_of}
use Rattle.potential_pairs.specs.Planning.{is_moved_file}
use Rattle.potential_pairs.specs.Potential.{may_pair}

abbrev numbered : ℕ → FileNo
numbered k = record { 0 = k }

-- a test that passes at none of the first n files fails at each
fails_at : (test : FileNo → Bool) (n k : ℕ) → k < n → list_any test (files n) ≡ false → test (numbered k) ≡ false
fails_at test n k within none = false_from_ne_true (test (numbered k)) (λ passes.
    let at : get_or (files n) k (numbered k) ≡ numbered k = get_or-map-range_with_len numbered 0 n k k (numbered k) within (omega arith) in
    let place : slice_get (files n) k ≡ Some (numbered k) = slice_get-get_or (files n) k (numbered k) (omega (arith, within, length-map-range_with_len numbered 0 n)) ∙ ap Some at in
    let some = any_passes_from_place test (files n) k (numbered k) place passes in cc)

-- ---- which files move
any_moved : (test : FileNo → Bool) (Q : Relations) (f : ℕ) (fs : List FileNo) → list_any (λ (m : Move). m.file.0 == f) (map (move_to Q) (filter test fs)) ≡ list_any (λ g. test g && g.0 == f) fs
any_moved test Q f [] = refl
any_moved test Q f (g ∷ fs) = by (test g) (any_moved test Q f fs) where
  by : (passes : Bool) → list_any (λ (m : Move). m.file.0 == f) (map (move_to Q) (filter test fs)) ≡ list_any (λ h. test h && h.0 == f) fs
      → list_any (λ (m : Move). m.file.0 == f) (map (move_to Q) (cond passes (g ∷ filter test fs) (filter test fs))) ≡ (passes && g.0 == f) || list_any (λ h. test h && h.0 == f) fs
  by true rest = ap (λ some. g.0 == f || some) rest
  by false rest = rest

pub unmoved_file : (n : ℕ) (R Q : Relations) (f : ℕ) → f < n → is_moved_file (moves n R Q) f ≡ false → is_moved n R Q f ≡ false
unfolding moves
unmoved_file n R Q f within none =
    let fails = fails_at (λ g. is_moved n R Q g.0 && g.0 == f) n f within (sym (any_moved (λ g. is_moved n R Q g.0) Q f (files n)) ∙ none) in
    false_from_ne_true (is_moved n R Q f) (λ moved. let here : is_moved n R Q f && f == f ≡ true = rw (moved, eq-eqb f f refl) refl in cc)

-- ---- what an unmoved file keeps
same_from_differ : (b c : Bool) → differ b c ≡ false → b ≡ c
same_from_differ true c same = sym (not-false c same)
same_from_differ false c same = sym same

module _ (n : ℕ) (R Q : Relations) (f : ℕ) (unmoved : is_moved n R Q f ≡ false) where
  kept_parts : (not (R.king f == Q.king f) ≡ false) × (not (class_of R f == class_of Q f) || pairs_differ n R Q f ≡ false)
  kept_parts = or_parts (not (R.king f == Q.king f)) (not (class_of R f == class_of Q f) || pairs_differ n R Q f) unmoved

  kept_later : (not (class_of R f == class_of Q f) ≡ false) × (pairs_differ n R Q f ≡ false)
  kept_later = or_parts (not (class_of R f == class_of Q f)) (pairs_differ n R Q f) kept_parts.1

  kept_king : R.king f ≡ Q.king f
  kept_king = eqb-true (R.king f) (Q.king f) (not-false (R.king f == Q.king f) kept_parts.0)

  kept_class : class_of R f ≡ class_of Q f
  kept_class = eqb-true (class_of R f) (class_of Q f) (not-false (class_of R f == class_of Q f) kept_later.0)

  kept_pairs : (d : ℕ) → d < n → names_unrelated R f d ≡ names_unrelated Q f d
  kept_pairs d within = same_from_differ (names_unrelated R f d) (names_unrelated Q f d)
      (fails_at (λ e. differ (names_unrelated R f e.0) (names_unrelated Q f e.0)) n d within kept_later.1)

-- ---- a class by its name
class_named : (R : Relations) → AreNamed R → (g : ℕ) → class_of R (class_of R g) ≡ class_of R g
class_named R named g = sym (eqb-true (class_of R g) (class_of R (class_of R g)) (sym (named.agree g (class_of R g)) ∙ named.own g))

unrelated_to_class : (R : Relations) → AreSound R → AreNamed R → (f g : ℕ) → names_unrelated R f (class_of R g) ≡ R.unrelated f g
unrelated_to_class R sound named f g =
    let here : class_of R (class_of R g) == class_of R g ≡ true = eq-eqb (class_of R (class_of R g)) (class_of R g) (class_named R named g) in
    let class = sound.both_ways f (class_of R g) ∙ sym (sound.carried g (class_of R g) f (named.own g)) ∙ sound.both_ways g f in
    rw here class

-- ---- the kings stand as their files do
kings_alike : (R : Relations) → AreSound R → (f g : ℕ) → R.alike (R.king f) (R.king g) ≡ R.alike f g
kings_alike R sound f g =
    sym (sound.chained f (R.king f) (R.king g) (sound.gathered f)) ∙ sound.symmetric f (R.king g) ∙ sym (sound.chained g (R.king g) f (sound.gathered g)) ∙ sound.symmetric g f

kings_unrelated : (R : Relations) → AreSound R → (f g : ℕ) → R.unrelated (R.king f) (R.king g) ≡ R.unrelated f g
kings_unrelated R sound f g =
    sym (sound.carried f (R.king f) (R.king g) (sound.gathered f)) ∙ sound.both_ways f (R.king g) ∙ sym (sound.carried g (R.king g) f (sound.gathered g)) ∙ sound.both_ways g f

-- the name by the kings, and how the files' classes stand
abbrev name_by : ℕ → ℕ → Bool → Bool → Option (ℕ × ℕ)
name_by j k alike unrelated =
    cond (nat_lt j k) (cond (nat_lt j k && (not alike && not unrelated)) (Some (j, k)) None) (cond (nat_lt k j && (not alike && not unrelated)) (Some (k, j)) None)

may_kings : (R : Relations) → AreSound R → (f g : ℕ) → may_pair R (R.king f) (R.king g) ≡ nat_lt (R.king f) (R.king g) && (not (R.alike f g) && not (R.unrelated f g))
may_kings R sound f g =
    let first : is_king R (R.king f) ≡ true = eq-eqb (R.king (R.king f)) (R.king f) (sound.crowned f) in
    let second : is_king R (R.king g) ≡ true = eq-eqb (R.king (R.king g)) (R.king g) (sound.crowned g) in
    (λ i. nat_lt (R.king f) (R.king g) && (first i && (second i && (not (kings_alike R sound f g i) && not (kings_unrelated R sound f g i)))))

abbrev both : ℕ → ℕ → ℕ × ℕ
both j k = (j, k)

-- the name, where groups of these kings may be a pair
abbrev named_or : Relations → ℕ × ℕ → Option (ℕ × ℕ)
named_or R name = cond (may_pair R name.0 name.1) (Some name) None

name-by : (R : Relations) → AreSound R → (f g : ℕ) → name_of R f g ≡ name_by (R.king f) (R.king g) (R.alike f g) (R.unrelated f g)
name-by R sound f g = by (nat_lt (R.king f) (R.king g)) where
  straight : cond (may_pair R (R.king f) (R.king g)) (Some (both (R.king f) (R.king g))) None ≡ cond (nat_lt (R.king f) (R.king g) && (not (R.alike f g) && not (R.unrelated f g))) (Some (both (R.king f) (R.king g))) None
  straight = ap (λ may. cond may (Some (both (R.king f) (R.king g))) None) (may_kings R sound f g)

  turned : cond (may_pair R (R.king g) (R.king f)) (Some (both (R.king g) (R.king f))) None ≡ cond (nat_lt (R.king g) (R.king f) && (not (R.alike f g) && not (R.unrelated f g))) (Some (both (R.king g) (R.king f))) None
  turned = ap (λ may. cond may (Some (both (R.king g) (R.king f))) None) (may_kings R sound g f)
      ∙ (λ i. cond (nat_lt (R.king g) (R.king f) && (not (sound.symmetric g f i) && not (sound.both_ways g f i))) (Some (both (R.king g) (R.king f))) None)

  by : (lower : Bool) → named_or R (cond lower (both (R.king f) (R.king g)) (both (R.king g) (R.king f)))
      ≡ cond lower (cond (nat_lt (R.king f) (R.king g) && (not (R.alike f g) && not (R.unrelated f g))) (Some (both (R.king f) (R.king g))) None)
      (cond (nat_lt (R.king g) (R.king f) && (not (R.alike f g) && not (R.unrelated f g))) (Some (both (R.king g) (R.king f))) None)
  by true = straight
  by false = turned

pub unmoved_name : (n : ℕ) (R Q : Relations) → AreSound R → AreNamed R → AreSound Q → AreNamed Q → (f g : ℕ) → f < n → g < n
    → is_moved n R Q f ≡ false → is_moved n R Q g ≡ false → name_of Q f g ≡ name_of R f g
unmoved_name n R Q R_sound R_named Q_sound Q_named f g f_there g_there f_stays g_stays =
    let first : Q.king f ≡ R.king f = sym (kept_king n R Q f f_stays) in
    let second : Q.king g ≡ R.king g = sym (kept_king n R Q g g_stays) in
    let class = kept_class n R Q g g_stays in
    let alike : Q.alike f g ≡ R.alike f g =
    Q_named.agree f g ∙ sym (λ i. kept_class n R Q f f_stays i == class i) ∙ sym (R_named.agree f g) in
    let least : class_of R g < n = omega (arith, first_from-le (R.alike g) 0 g, g_there) in
    let unrelated : Q.unrelated f g ≡ R.unrelated f g =
    sym (unrelated_to_class Q Q_sound Q_named f g) ∙ ap (names_unrelated Q f) (sym class) ∙ sym (kept_pairs n R Q f f_stays (class_of R g) least) ∙ unrelated_to_class R R_sound R_named f g in
    name-by Q Q_sound f g ∙ (λ i. name_by (first i) (second i) (alike i) (unrelated i)) ∙ sym (name-by R R_sound f g)

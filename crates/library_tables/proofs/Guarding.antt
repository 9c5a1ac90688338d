-- Needs are tested one after the other.
use Rattle.std.specs.Option.{option_map_or}
use Rattle.std.proofs.Common.{◌≡◌, ◌∙◌, ℕ, option_map, Bool, true, false, not, Some, None, Ok, Err, Option, is_some, [], ◌∷◌, ◌++◌, List, refl, ap, sym}
use Rattle.media_base.specs.declared.change.Change.{Change}
use Rattle.media_base.specs.declared.refusal.Unmet.{Unmet}
use Rattle.media_base.specs.declared.refusal.Unmet.TheVariants as whys
use Rattle.library_machine.specs.Changing.{does, is_idle, needs}
use Rattle.library_machine.specs.Guards.{guarded}
use Rattle.library_machine.specs.Needs.{Need, is_met, unmet}
use Rattle.library_machine.specs.Records.{Records, too_many}
use Rattle.library_machine.specs.Relating.{text_of, too_many_told}
use Rattle.library_tables.specs.Relations.{over_told}

abbrev pub AllTrue : Records → List Need → Type 0
AllTrue r [] = Unit {0}
AllTrue r (need ∷ needs) = (is_met r need ≡ true) × AllTrue r needs

stops : (r : Records) (front : List Need) (need : Need) (later : List Need) (done : Bool) → AllTrue r front → is_met r need ≡ false
    → guarded (is_met r) (unmet r) (front ++ need ∷ later) done ≡ Err (unmet r need)
stops r [] need later done met unmet_here = rw unmet_here refl
stops r (first ∷ front) need later done met unmet_here = rw met.0 (stops r front need later done met.1 unmet_here)

passes : (r : Records) (all : List Need) (done : Bool) → AllTrue r all → guarded (is_met r) (unmet r) all done ≡ Ok done
passes r [] done met = refl
passes r (need ∷ all) done met = rw met.0 (passes r all done met.1)

-- a change is refused for the first of its needs that isn't met
pub refused_at : (r : Records) (c : Change) (front : List Need) (need : Need) (later : List Need) → needs c ≡ front ++ need ∷ later → AllTrue r front → is_met r need ≡ false
    → does r c ≡ Err (unmet r need)
refused_at r c front need later is met unmet_here = ap (λ all. guarded (is_met r) (unmet r) all (is_idle r c)) is ∙ stops r front need later (is_idle r c) met unmet_here

-- and done where all are
pub done_by : (r : Records) (c : Change) (idle : Bool) → AllTrue r (needs c) → is_idle r c ≡ idle → does r c ≡ Ok idle
done_by r c idle met is = passes r (needs c) (is_idle r c) met ∙ ap Ok is

-- ---- too many implied

abbrev told_of : Records → ℕ × ℕ → Unmet
told_of r found = whys.TooManyImplied (record { 0 = found.0 }) (text_of r found.1)

some_is : {why other : Unmet} → Some why ≡ Some other → why ≡ other
some_is same = cc same

pub over_some : (r : Records) (why : Unmet) → over_told r ≡ Some why → (not (is_some (too_many r)) ≡ false) × (too_many_told r ≡ why)
over_some r why = by (too_many r) refl
  where
    by : (found : Option (ℕ × ℕ)) → too_many r ≡ found → over_told r ≡ Some why → (not (is_some (too_many r)) ≡ false) × (too_many_told r ≡ why)
    by None is told = absurd (cc (told, ap (λ (found : Option (ℕ × ℕ)). option_map (told_of r) found) is))
    by (Some over) is told = (
      ap (λ (found : Option (ℕ × ℕ)). not (is_some found)) is,
      ap (λ (found : Option (ℕ × ℕ)). option_map_or (told_of r) found (whys.TooManyImplied (record { 0 = 0 }) [])) is ∙ some_is (sym (ap (λ (found : Option (ℕ × ℕ)). option_map (told_of r) found) is) ∙ told),
    )

pub over_none : (r : Records) → over_told r ≡ None → not (is_some (too_many r)) ≡ true
over_none r = by (too_many r) refl
  where
    by : (found : Option (ℕ × ℕ)) → too_many r ≡ found → over_told r ≡ None → not (is_some (too_many r)) ≡ true
    by None is told = ap (λ (found : Option (ℕ × ℕ)). not (is_some found)) is
    by (Some over) is told = absurd (cc (told, ap (λ (found : Option (ℕ × ℕ)). option_map (told_of r) found) is))

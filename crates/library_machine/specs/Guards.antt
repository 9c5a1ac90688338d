-- Needs in their order: the first that isn't met refuses.
use Rattle.std.specs.Prelude.{◌≡◌, ◌⊎◌, Bool, if◌then◌else◌, List, [], ◌∷◌, Result, Ok, Err}
use Rattle.media_base.specs.declared.refusal.Unmet.{Unmet}

-- what is done where all needs are met, or why not
abbrev pub guarded : {N A : Type 0} → (N → Bool) → (N → Unmet) → List N → A → Result A Unmet
guarded is_met unmet [] done = Ok done
guarded is_met unmet (need ∷ needs) done =
    if is_met need then guarded is_met unmet needs done else Err (unmet need)

-- This is told for the first of the needs that isn't met: those before it are.
abbrev pub IsFirstUnmet : {N : Type 0} → (N → Type 0) → (N → Unmet) → List N → Unmet → Type 0
IsFirstUnmet Met unmet [] why = ⊥
IsFirstUnmet Met unmet (need ∷ needs) why =
    ((¬ Met need) × (unmet need ≡ why)) ⊎ (Met need × IsFirstUnmet Met unmet needs why)

abbrev pub AreMet : {N : Type 0} → (N → Type 0) → List N → Type 0
AreMet Met [] = Unit {0}
AreMet Met (need ∷ needs) = Met need × AreMet Met needs

-- The room that the tables of the files have, in imports.
use Rattle.std.proofs.Common.{◌≤◌, ◌+◌, ◌/◌, ℕ, min, arith}
use Rattle.media_types.specs.declared.limits.TheConstants.{MAX_HASHES}

-- the least of four tables' room, of which the last two take up to MAX_HASHES rows an import
abbrev pub room_of : ℕ → ℕ → ℕ → ℕ → ℕ
room_of index rows words holders = min (min index rows) (min (words / MAX_HASHES) (holders / MAX_HASHES))

pub room_for_one : (index rows words holders : ℕ) → 1 ≤ room_of index rows words holders →
    (1 ≤ index) × (1 ≤ rows) × (MAX_HASHES ≤ words) × (MAX_HASHES ≤ holders)
room_for_one index rows words holders room = (omega arith, omega arith, omega arith, omega arith)

pub room_made : (index rows words holders : ℕ) → 1 ≤ index → 1 ≤ rows → MAX_HASHES ≤ words → MAX_HASHES ≤ holders → 1 ≤ room_of index rows words holders
room_made index rows words holders i r w h = omega arith

pub room_taken : (i i' r r' w w' h h' : ℕ) → i ≤ i' + 1 → r ≤ r' + 1 → w ≤ w' + MAX_HASHES → h ≤ h' + MAX_HASHES → room_of i r w h ≤ room_of i' r' w' h' + 1
room_taken i i' r r' w w' h h' index rows words holders = omega arith

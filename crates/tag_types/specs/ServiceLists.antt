-- Lists of services.
use Rattle.std.specs.Prelude.{◌≡◌, ◌≢◌, ◌≤◌, ℕ, ◌-◌, List, ◌++◌, length, take, replicate}
use Rattle.std.specs.List.{AllPairs}
use Rattle.media_types.specs.declared.numbers.ServiceNo.{ServiceNo}
use Rattle.tag_types.specs.declared.limits.TheConstants.{MAX_SERVICES}

-- no service stands twice
abbrev pub AreDistinct : List ServiceNo → Type 0
AreDistinct services = AllPairs (λ a b. a ≢ b) services

-- the first slots hold services, none twice, and each other slot holds 0
pub record IsFilled (slots : List ServiceNo) (used : ℕ) : Type 0 where
  pub all : length slots ≡ MAX_SERVICES
  pub few : used ≤ MAX_SERVICES
  pub blank : slots ≡ take used slots ++ replicate (MAX_SERVICES - used) (record { 0 = 0 })
  pub distinct : AreDistinct (take used slots)

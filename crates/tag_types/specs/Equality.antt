-- What `==` tells: tags by their bytes, and services and their lists by themselves.
use Rattle.std.specs.Prelude.{◌≡◌, ℕ, Bool, true, ◌==◌, List, bytes_eq}
use Rattle.std.proofs.Common.{ap}
use Rattle.std.specs.Bool.{Decides}
use Rattle.std.specs.Cmp.{IsEquivalence, decided}
use Rattle.std.specs.Cmp.Lexicographic.{pointwise, pointwise_decides}
use Rattle.std.specs.Hash.{str}
use Rattle.std.proofs.lemmas.Bool.Decides.{Decides-eqb}
use Rattle.std.proofs.lemmas.Slice.Eq.{bytes_eq-Decides}
use Rattle.media_types.specs.declared.numbers.ServiceNo.{ServiceNo}

abbrev pub same_service : ServiceNo → ServiceNo → Bool
same_service a b = a.0 == b.0

-- the lists have the same services in the same order
abbrev pub same_services : List ServiceNo → List ServiceNo → Bool
same_services a b = pointwise same_service a b

pub same_service-Decides : (a b : ServiceNo) → Decides (same_service a b) (a ≡ b)
same_service-Decides a b = (
  λ e. ap (λ (n : ℕ). record { 0 = n }) ((Decides-eqb a.0 b.0).0 e),
  λ e. (Decides-eqb a.0 b.0).1 (ap (λ (s : ServiceNo). s.0) e),
)

pub same_services-Decides : (a b : List ServiceNo) → Decides (same_services a b) (a ≡ b)
same_services-Decides = pointwise_decides same_service-Decides

pub same_services-equiv : IsEquivalence same_services
same_services-equiv = decided same_services same_services-Decides

pub tags-alike : (a b : List ℕ) → bytes_eq a b ≡ true → str a ≡ str b
tags-alike a b e = ap str ((bytes_eq-Decides a b).0 e)

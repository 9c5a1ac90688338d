-- Deleted files.
use Rattle.std.proofs.Common.{◌≡◌, ◌==◌, ℕ, Bool, List, Decides, refl}
use Rattle.std.specs.List.{Contains, list_any}
use Rattle.std.proofs.lemmas.Bool.Decides.{Decides-by_or, Decides-eqb, same_from_decides}
use Rattle.std.proofs.lemmas.List.Elements.{Decides-contains}

-- the files that are deleted are not live
pub live-unless : (gone : List ℕ) (f : ℕ) (answer : Bool) → Decides answer (Contains gone f) → answer ≡ list_any (λ g. g == f) gone
live-unless gone f answer told =
    let found = Decides-contains gone f (list_any (λ g. g == f) gone) (Decides-by_or (λ g. g == f) (λ g. g ≡ f) (list_any (λ g. g == f)) (λ g. Decides-eqb g f) refl (λ _ _. refl) gone) in
    same_from_decides answer (list_any (λ g. g == f) gone) told found

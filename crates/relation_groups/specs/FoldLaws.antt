-- One more decision.
use Rattle.std.proofs.Common.{◌≡◌, ◌∙◌, ℕ, ◌+◌, ◌<◌, List, [], ◌∷◌, ◌++◌, length, get_or, take, refl, ap}
use Rattle.std.proofs.lemmas.List.{take_more}
use Rattle.media_types.specs.declared.decision.Decision.{Decision}
use Rattle.relation_groups.specs.Relations.{Relations, decided, after}

pub after-push : (R : Relations) (ds : List Decision) (d : Decision) → after R (ds ++ d ∷ []) ≡ decided d (after R ds)
after-push R [] d = refl
after-push R (e ∷ ds) d = after-push (decided e R) ds d

pub after_more : (R : Relations) (ds : List Decision) (i : ℕ) (d : Decision) → i < length ds
    → after R (take (i + 1) ds) ≡ decided (get_or ds i d) (after R (take i ds))
after_more R ds i d h = ap (after R) (take_more ds i d h) ∙ after-push R (take i ds) (get_or ds i d)

-- Ends that are put in place, the last one first.
use Rattle.std.proofs.Common.{◌≡◌, ◌∙◌, ℕ, ◌+◌, ◌<◌, ◌==◌, ◌||◌, Bool, true, false, cond, List, length, get_or, set, drop, refl, sym, ap, subst}
use Rattle.std.specs.List.{list_any}
use Rattle.std.proofs.lemmas.List.{drop_more}
use Rattle.sibling_chains.specs.Ends.{at, end_beside}
use Rattle.sibling_chains.proofs.GroupLists.{at-set}

-- what a tag's end is, where those of the tags from a place on are put
abbrev pub put_from : ℕ → List ℕ → List ℕ → ℕ → ℕ → ℕ
put_from j tags ends old t = cond (list_any (λ x. x == t) (drop j tags)) (end_beside (drop j tags) (drop j ends) t) old

either-way : (here any : Bool) (e beside old : ℕ) → cond here e (cond any beside old) ≡ cond (here || any) (cond here e beside) old
either-way true any e beside old = refl
either-way false any e beside old = refl

pub put-step : (tags ends now : List ℕ) (k j old t : ℕ) → j ≡ k + 1 → k < length tags → k < length ends → get_or tags k 0 < length now
    → at now t ≡ put_from j tags ends old t → at (set now (get_or tags k 0) (get_or ends k 0)) t ≡ put_from k tags ends old t
put-step tags ends now k j old t e ht he hn was =
    let tag : ℕ = get_or tags k 0 in
    let end : ℕ = get_or ends k 0 in
    let before : at now t ≡ put_from (k + 1) tags ends old t = subst (λ i. at now t ≡ put_from i tags ends old t) e was in
    at-set now tag end t hn
    ∙ ap (cond (tag == t) end) before
    ∙ either-way (tag == t) (list_any (λ x. x == t) (drop (k + 1) tags)) end (end_beside (drop (k + 1) tags) (drop (k + 1) ends) t) old
    ∙ sym (rw (drop_more tags k 0 ht, drop_more ends k 0 he) refl)

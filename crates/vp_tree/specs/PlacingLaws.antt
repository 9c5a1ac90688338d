-- Words that are placed one after the other, told from the last one.
use Rattle.std.proofs.Common.{List, [], ◌∷◌, ◌++◌, refl, subst}
use Rattle.media_types.specs.declared.hash.Hash64.{Hash64}
use Rattle.vp_tree.specs.Marking.{ArePlaced, IsGrown, MarkedTree}

-- one more word is placed after others
pub placed-one_more : (old next new : MarkedTree) (words : List Hash64) (w : Hash64)
    → ArePlaced old words next → IsGrown next new w → ArePlaced old (words ++ w ∷ []) new
placed-one_more old next new [] w all last = (new, subst (λ tree. IsGrown tree new w) all last, refl)
placed-one_more old next new (x ∷ words) w all last = (all.0, all.1, placed-one_more all.0 next new words w all.2 last)

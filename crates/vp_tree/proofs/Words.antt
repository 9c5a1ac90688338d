-- The words of a tree, once one was placed, and once a branch was built anew.
use Rattle.std.proofs.Common.{◌≡◌, ◌∙◌, ℕ, ◌<◌, List, [], ◌∷◌, ◌++◌, length, map, sym, ap, inl, inr, arith}
use Rattle.std.specs.List.{range_with_len}
use Rattle.std.proofs.lemmas.List.{ext_get_or, get_or-map, get_or_append_left, get_or_push, length-map, length_push, map_push}
use Rattle.std.proofs.lemmas.List.FromFn.{fill_by_all, get_or-map-range_with_len, length-map-range_with_len}
use Rattle.media_types.specs.declared.hash.Hash64.{Hash64}
use Rattle.vp_tree.specs.declared.building.Point.{Point}
use Rattle.vp_tree.specs.declared.node.NodeView.{NodeView}
use Rattle.vp_tree.specs.Building.{point_at, points, IsRebuilt, IsBuiltWhole}
use Rattle.vp_tree.specs.Nodes.{leaf, node_at, words_in}
use Rattle.vp_tree.specs.Placing.{IsPlaced}
use Rattle.vp_tree.specs.Shape.{IsTree}
use Rattle.vp_tree.proofs.Collecting.{points-root}
use Rattle.vp_tree.proofs.Placed.{old_word, old_or_last}
use Rattle.vp_tree.proofs.Rebuilt.{rebuilt-word}

abbrev no_word : Hash64
no_word = record { 0 = 0 }

words-same : (xs ys : List NodeView) → length xs ≡ length ys → ((k : ℕ) → k < length ys → (node_at xs k).word ≡ (node_at ys k).word)
    → words_in xs ≡ words_in ys
words-same xs ys len each =
    ext_get_or no_word (words_in xs) (words_in ys) (length-map xs (λ v. v.word) ∙ len ∙ sym (length-map ys (λ v. v.word)))
    (λ k lt.
    let inside : k < length xs = omega (arith, lt, length-map xs (λ v. v.word)) in
    get_or-map (λ v. v.word) xs k (leaf no_word) no_word inside ∙ each k (omega (arith, inside, len))
    ∙ sym (get_or-map (λ v. v.word) ys k (leaf no_word) no_word (omega (arith, inside, len))))

-- each node keeps its word, and the new one comes last
pub placed-words_in : (ns ms : List NodeView) (w : Hash64) → IsPlaced ns ms w → words_in ms ≡ words_in ns ++ w ∷ []
placed-words_in ns ms w P =
    words-same ms (ns ++ leaf w ∷ []) (P.len ∙ sym (length_push ns (leaf w)))
    (λ k lt. elim (old_or_last k (length ns) (omega (arith, lt, length_push ns (leaf w)))) [
      | inl old ↦ old_word ns ms w k P old ∙ sym (ap (λ v. v.word) (get_or_append_left ns (leaf w ∷ []) (leaf no_word) k old))
      | inr last ↦ ap (λ i. (node_at ms i).word) last ∙ ap (λ v. v.word) P.last
          ∙ sym (ap (λ v. v.word) (get_or_push ns (leaf w) (leaf no_word) k (sym last)))
    ])
    ∙ map_push (λ v. v.word) ns (leaf w)

pub rebuilt-words_in : (ns ms : List NodeView) (top : ℕ) → IsTree ns → IsRebuilt ns ms top → top < length ns → words_in ms ≡ words_in ns
rebuilt-words_in ns ms top T R lt = words-same ms ns R.len (λ k lk. rebuilt-word ns ms top k T R lt lk)

-- the points stay the same, since the words do
rebuilt-points : (ns ms : List NodeView) (top : ℕ) → IsTree ns → IsRebuilt ns ms top → top < length ns
    → map (point_at ns) (range_with_len 0 (length ns)) ≡ map (point_at ms) (range_with_len 0 (length ms))
rebuilt-points ns ms top T R lt =
    let none : Point = record { number = record { 0 = 0 }; word = no_word } in
    fill_by_all (point_at ms) (map (point_at ns) (range_with_len 0 (length ns))) (length ms) none
    (length-map-range_with_len (point_at ns) 0 (length ns) ∙ sym R.len)
    (λ k lk.
    let kn : k < length ns = omega (arith, lk, R.len) in
    get_or-map-range_with_len (point_at ns) 0 (length ns) k k none kn (omega arith)
    ∙ ap (λ w. record { number = record { 0 = k }; word = w }) (sym (rebuilt-word ns ms top k T R lt kn)))

-- the root's branch has all points
pub rebuilt-whole : (ns ms : List NodeView) (top : ℕ) → IsTree ns → IsRebuilt ns ms top → top < length ns → top ≡ 0 → IsBuiltWhole ms
rebuilt-whole ns ms top T R lt root =
    let all : points ns top ≡ map (point_at ms) (range_with_len 0 (length ms)) =
    ap (points ns) root ∙ points-root ns T ∙ rebuilt-points ns ms top T R lt in
    record { built = rw all at R.built }

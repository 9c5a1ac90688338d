-- Bytes have one cut into lines.
use Rattle.std.proofs.Common.{◌≡◌, ℕ, List, [], ◌∷◌, ◌++◌, refl, sym, ◌∙◌, append_assoc}
use Rattle.std.specs.List.{AllByRecursion, flat_map}
use Rattle.media_tool.specs.Lines.{HasNoFeed, with_feed, Cut}

-- the line and what follows it, by its first line feed
line_is : (a b x y : List ℕ) → HasNoFeed a → HasNoFeed b → with_feed a ++ x ≡ with_feed b ++ y → (a ≡ b) × (x ≡ y)
line_is [] [] x y p q e = (refl, cc)
line_is [] (c ∷ b) x y p q e = absurd (q.0 cc)
line_is (c ∷ a) [] x y p q e = absurd (p.0 cc)
line_is (c ∷ a) (d ∷ b) x y p q e =
    let same : c ≡ d = cc in
    let others = line_is a b x y p.1 q.1 cc in
    let tails : a ≡ b = others.0 in
    (cc, others.1)

-- an unfinished line has no line feed in it
not_ended : (a x rest : List ℕ) → HasNoFeed rest → rest ≡ with_feed a ++ x → ⊥
not_ended [] x [] p e = absurd cc
not_ended [] x (b ∷ rest) p e = p.0 cc
not_ended (c ∷ a) x [] p e = absurd cc
not_ended (c ∷ a) x (b ∷ rest) p e = not_ended a x rest p.1 cc

lines_are : (first second : List (List ℕ)) (rest last : List ℕ) → AllByRecursion HasNoFeed first → AllByRecursion HasNoFeed second → HasNoFeed rest → HasNoFeed last
    → flat_map with_feed first ++ rest ≡ flat_map with_feed second ++ last → (first ≡ second) × (rest ≡ last)
lines_are [] [] rest last p q u v e = (refl, e)
lines_are [] (m ∷ second) rest last p q u v e = absurd (not_ended m (flat_map with_feed second ++ last) rest u (e ∙ append_assoc (with_feed m) (flat_map with_feed second) last))
lines_are (l ∷ first) [] rest last p q u v e = absurd (not_ended l (flat_map with_feed first ++ rest) last v (sym e ∙ append_assoc (with_feed l) (flat_map with_feed first) rest))
lines_are (l ∷ first) (m ∷ second) rest last p q u v e =
    let split = line_is l m (flat_map with_feed first ++ rest) (flat_map with_feed second ++ last) p.0 q.0 (sym (append_assoc (with_feed l) (flat_map with_feed first) rest) ∙ e ∙ append_assoc (with_feed m) (flat_map with_feed second) last) in
    let others = lines_are first second rest last p.1 q.1 u v split.1 in
    let line : l ≡ m = split.0 in
    let tails : first ≡ second = others.0 in
    (cc, others.1)

pub one_cut_of : (bytes : List ℕ) (first second : List (List ℕ)) (rest last : List ℕ) → Cut bytes first rest → Cut bytes second last → (first ≡ second) × (rest ≡ last)
one_cut_of bytes first second rest last p q =
    lines_are first second rest last p.each q.each p.unfinished q.unfinished (sym p.whole ∙ q.whole)

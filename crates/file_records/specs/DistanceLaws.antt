-- The least of distances, and that the distance of two files doesn't depend on their order.
use Rattle.std.proofs.Common.{◌≡◌, ℕ, min, List, [], ◌∷◌, ◌++◌, map, Option, Some, None, refl, ap, sym, ◌∙◌, arith}
use Rattle.media_types.specs.Distance.{distance_of}
use Rattle.media_types.specs.declared.hash.Hash64.{Hash64}
use Rattle.media_types.specs.Least.{least}
use Rattle.file_records.specs.Distances.{nearer, distances, least_distance}
use Rattle.media_types.specs.DistanceLaws.{distance_of-sym}

-- ---- the lesser of two distances, in any order
min_assoc : (a b c : ℕ) → min (min a b) c ≡ min a (min b c)
min_assoc a b c = omega arith

nearer_assoc : (a b c : Option ℕ) → nearer (nearer a b) c ≡ nearer a (nearer b c)
nearer_assoc None b c = refl
nearer_assoc (Some a) None c = refl
nearer_assoc (Some a) (Some b) None = refl
nearer_assoc (Some a) (Some b) (Some c) = ap Some (min_assoc a b c)

nearer_comm : (a b : Option ℕ) → nearer a b ≡ nearer b a
nearer_comm None None = refl
nearer_comm None (Some b) = refl
nearer_comm (Some a) None = refl
nearer_comm (Some a) (Some b) = ap Some (omega arith)

pub least-append : (xs ys : List ℕ) → least (xs ++ ys) ≡ nearer (least xs) (least ys)
least-append [] ys = refl
least-append (x ∷ xs) ys = ap (nearer (Some x)) (least-append xs ys) ∙ sym (nearer_assoc (Some x) (least xs) (least ys))

-- ---- the distance of two files, in either order
swap : (a b c : Option ℕ) → nearer a (nearer b c) ≡ nearer b (nearer a c)
swap a b c = sym (nearer_assoc a b c) ∙ ap (λ n. nearer n c) (nearer_comm a b) ∙ nearer_assoc b a c

-- of the first hash of the one, and of the others
split : (y : Hash64) (xs ys : List Hash64) → least_distance xs (y ∷ ys) ≡ nearer (least (map (distance_of y) xs)) (least_distance xs ys)
split y [] ys = refl
split y (x ∷ xs) ys =
    let d = distance_of x y in
    let rest = least (map (distance_of y) xs) in
    ap (nearer (Some d)) (least-append (map (distance_of x) ys) (distances xs (y ∷ ys)) ∙ ap (nearer (least (map (distance_of x) ys))) (split y xs ys))
    ∙ ap (nearer (Some d)) (swap (least (map (distance_of x) ys)) rest (least_distance xs ys))
    ∙ sym (nearer_assoc (Some d) rest (nearer (least (map (distance_of x) ys)) (least_distance xs ys)))
    ∙ ap (λ n. nearer (nearer (Some n) rest) (nearer (least (map (distance_of x) ys)) (least_distance xs ys))) (distance_of-sym x y)
    ∙ ap (nearer (nearer (Some (distance_of y x)) rest)) (sym (least-append (map (distance_of x) ys) (distances xs ys)))

nothing : (xs : List Hash64) → least_distance xs [] ≡ None
nothing [] = refl
nothing (x ∷ xs) = nothing xs

pub symmetric : (xs ys : List Hash64) → least_distance xs ys ≡ least_distance ys xs
symmetric xs [] = nothing xs
symmetric xs (y ∷ ys) = split y xs ys ∙ ap (nearer (least (map (distance_of y) xs))) (symmetric xs ys) ∙ sym (least-append (map (distance_of y) xs) (distances ys xs))

-- Distances that are worked out one after the other.
use Rattle.std.proofs.Common.{◌≡◌, ℕ, ◌+◌, ◌<◌, List, [], ◌∷◌, ◌++◌, length, take, get_or, map, Option, Some, ap, sym, ◌∙◌}
use Rattle.std.proofs.lemmas.List.{append-nil, take_more, map_more}
use Rattle.std.proofs.lemmas.List.Concat.{flat_map-append}
use Rattle.media_types.specs.Distance.{distance_of}
use Rattle.media_types.specs.declared.hash.Hash64.{Hash64}
use Rattle.media_types.specs.Least.{least}
use Rattle.file_records.specs.Distances.{nearer, distances, least_distance}
use Rattle.file_records.specs.DistanceLaws.{least-append}

-- ---- one more distance
pub least_more : (distance : Hash64 → ℕ) (hashes : List Hash64) (i : ℕ) (d : Hash64) (old new : Option ℕ) → i < length hashes →
    old ≡ least (map distance (take i hashes)) → new ≡ nearer old (Some (distance (get_or hashes i d))) → new ≡ least (map distance (take (i + 1) hashes))
least_more distance hashes i d old new within so_far now =
    now ∙ ap (λ n. nearer n (Some (distance (get_or hashes i d)))) so_far
    ∙ sym (ap least (map_more distance hashes i d within) ∙ least-append (map distance (take i hashes)) (distance (get_or hashes i d) ∷ []))

pub distance_more : (xs ys : List Hash64) (i : ℕ) (d : Hash64) (old new : Option ℕ) → i < length xs →
    old ≡ least_distance (take i xs) ys → new ≡ nearer old (least (map (distance_of (get_or xs i d)) ys)) → new ≡ least_distance (take (i + 1) xs) ys
distance_more xs ys i d old new within so_far now =
    let x = get_or xs i d in
    now ∙ ap (λ n. nearer n (least (map (distance_of x) ys))) so_far
    ∙ sym (ap (λ hashes. least_distance hashes ys) (take_more xs i d within)
    ∙ ap least (flat_map-append (λ h. map (distance_of h) ys) (take i xs) (x ∷ []))
    ∙ ap (λ ns. least (distances (take i xs) ys ++ ns)) (append-nil (map (distance_of x) ys))
    ∙ least-append (distances (take i xs) ys) (map (distance_of x) ys))

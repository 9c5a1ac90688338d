-- What loops note and read: one element more, and how much a search meets.
use Rattle.std.proofs.Common.{◌≡◌, ◌<◌, ◌≤◌, ◌+◌, ◌++◌, ℕ, nat_le, List, length, take, get_or, sum_by, ap, subst, sym, ◌∙◌, arith}
use Rattle.std.specs.List.{All, flat_map, range_with_len}
use Rattle.std.proofs.lemmas.List.{flat_map_more, length-map, take_more}
use Rattle.std.proofs.lemmas.List.Elements.{All-filter, All-map, All-weaker}
use Rattle.std.proofs.lemmas.List.FromFn.{get_or-map-range_with_len, length-map-range_with_len}
use Rattle.std.proofs.lemmas.List.Sums.{sum-map}
use Rattle.spare_tables.specs.BelowLaws.{numbers_below}
use Rattle.media_types.specs.Numbered.{files}
use Rattle.media_types.specs.declared.hash.Hash64.{Hash64}
use Rattle.media_types.specs.declared.numbers.FileNo.{FileNo}
use Rattle.media_types.specs.declared.numbers.HashNo.{HashNo}
use Rattle.file_records.specs.declared.file_row.FileRow.{FileRow}
use Rattle.file_records.specs.HeldLaws.{held}
use Rattle.file_records.specs.Near.{hashes_at}
use Rattle.file_records.specs.Searching.{searched}
use Rattle.file_records.specs.Words.{has_hash, words_of}
use Rattle.vp_tree.specs.Nodes.{words_in}
use Rattle.vp_tree.specs.Searching.{filter_of, hit, reads}
use Rattle.vp_tree.specs.declared.node.NodeView.{NodeView}
use Rattle.near_search.specs.Noting.{holders_of, near_pair, noted_at, noted_near, noted_of}
use Rattle.near_search.specs.Work.{holders, met, met_of, work}
use Rattle.near_search.proofs.Lists.{Contains-filter, few-filter_map, few-flat_map}

-- ---- one element more
pub flat_more : {X Y : Type 0} (note : X → List Y) (start old new : List Y) (xs : List X) (i : ℕ) (d : X) → i < length xs
    → old ≡ start ++ flat_map note (take i xs) → new ≡ old ++ note (get_or xs i d) → new ≡ start ++ flat_map note (take (i + 1) xs)
flat_more note start old new xs i d within so_far put =
    put ∙ ap (λ ys. ys ++ note (get_or xs i d)) so_far ∙ flat_map_more note start (take i xs) (get_or xs i d) ∙ ap (λ zs. start ++ flat_map note zs) (sym (take_more xs i d within))

-- ---- each hit has a holder
abbrev numbered : ℕ → FileNo
numbered k = record { 0 = k }

some_holder : (rows : List FileRow) (h : ℕ) → h < length (words_of rows) → 1 ≤ holders rows h
some_holder rows h within =
    let (k, there, has) = held rows h within in
    let at : get_or (files (length rows)) k (numbered k) ≡ numbered k = get_or-map-range_with_len numbered 0 (length rows) k k (numbered k) there (omega arith) in
    let member = Contains-filter (λ f. has_hash h rows f.0) (files (length rows)) k (numbered k) (omega (arith, length-map-range_with_len numbered 0 (length rows)))
    (ap (λ (f : FileNo). has_hash h rows f.0) at ∙ has) in
    omega (arith, member.1)

hits_known : (tree : List NodeView) (word : Hash64) (d : ℕ) → All (λ h. h.0.0 < length tree) (filter_of tree word d)
hits_known tree word d =
    All-filter (λ (h : HashNo × ℕ). nat_le h.1 d) (λ h. h.0.0 < length tree) _ (All-map (λ (h : HashNo × ℕ). h.0.0 < length tree) (hit tree word) (range_with_len 0 (length tree)) (numbers_below (length tree)))

pub holder_at : (tree : List NodeView) (rows : List FileRow) (word : Hash64) (d : ℕ) → words_in tree ≡ words_of rows → (hits : List (HashNo × ℕ)) → hits ≡ filter_of tree word d
    → All (λ h. 1 ≤ holders rows h.0.0) hits
holder_at tree rows word d same hits are = subst (All (λ (h : HashNo × ℕ). 1 ≤ holders rows h.0.0)) (sym are)
    (All-weaker (λ (h : HashNo × ℕ). h.0.0 < length tree) (λ (h : HashNo × ℕ). 1 ≤ holders rows h.0.0)
    (λ h known. some_holder rows h.0.0 (omega (arith, known, length-map tree (λ node. node.word), ap length same)))
    (filter_of tree word d) (hits_known tree word d))

-- ---- sums
pub met_is : (tree : List NodeView) (rows : List FileRow) (d : ℕ) (word : Hash64) → met tree rows d word ≡ reads tree word d + sum_by (λ h. holders rows h.0.0) (filter_of tree word d)
met_is tree rows d word = ap (λ n. reads tree word d + n) (sum-map (λ (h : HashNo × ℕ). holders rows h.0.0) (filter_of tree word d))

few_at : (tree : List NodeView) (rows : List FileRow) (d : ℕ) (risen : List FileNo) (f : FileNo) (h : ℕ) → length (noted_at tree rows d risen f h) ≤ holders rows h
few_at tree rows d risen f h = few-filter_map (near_pair (searched d risen rows) f) (holders_of rows h)

few_near : (tree : List NodeView) (rows : List FileRow) (d : ℕ) (risen : List FileNo) (f : FileNo) (word : Hash64) → length (noted_near tree rows d risen f word) ≤ met tree rows d word
few_near tree rows d risen f word =
    omega (
      arith,
      few-flat_map (λ (h : HashNo × ℕ). noted_at tree rows d risen f h.0.0) (λ h. holders rows h.0.0) (filter_of tree word d) (λ h. few_at tree rows d risen f h.0.0),
      met_is tree rows d word,
    )

few_of : (tree : List NodeView) (rows : List FileRow) (d : ℕ) (risen : List FileNo) (f : FileNo) → length (noted_of tree rows d risen f) ≤ met_of tree rows d f
few_of tree rows d risen f =
    omega (
      arith,
      few-flat_map (noted_near tree rows d risen f) (met tree rows d) (hashes_at rows f.0) (few_near tree rows d risen f),
      sum-map (met tree rows d) (hashes_at rows f.0),
    )

pub work_is : (tree : List NodeView) (rows : List FileRow) (d : ℕ) (risen : List FileNo) → work tree rows d risen ≡ sum_by (met_of tree rows d) risen
unfolding work
work_is tree rows d risen = sum-map (met_of tree rows d) risen

pub few_found : (tree : List NodeView) (rows : List FileRow) (d : ℕ) (risen : List FileNo) → length (flat_map (noted_of tree rows d risen) risen) ≤ work tree rows d risen
few_found tree rows d risen = omega (arith, few-flat_map (noted_of tree rows d risen) (met_of tree rows d) risen (few_of tree rows d risen), work_is tree rows d risen)

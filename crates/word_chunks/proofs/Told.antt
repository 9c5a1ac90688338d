-- What the values of all chunks tell: every near word once, in the first chunk that is near.
use Rattle.std.proofs.Common.{◌≡◌, ◌≢◌, ◌∙◌, ℕ, zero, suc, ◌+◌, ◌/◌, ◌<◌, ◌≤◌, ◌==◌, nat_le, nat_lt, ◌&&◌, inl, inr, Bool, true, false, cond, List, [], ◌∷◌, ◌++◌, length, map, get_or, sum_by, All, bit_xor, count_ones, refl, sym, ap, arith}
use Rattle.std.specs.List.{flat_map, range_with_len}
use Rattle.std.proofs.lemmas.Bool.{cases_lt, leb-true, le-leb, lt-ltb, le-ltb, and_parts}
use Rattle.std.proofs.lemmas.Bool.Decides.{eqb_tells}
use Rattle.std.proofs.lemmas.Nat.{xor_lt, xor_comm}
use Rattle.std.proofs.lemmas.List.Elements.{All-append, All-cons, All-nil}
use Rattle.std.proofs.lemmas.List.Sums.{sum_by-append, sum_by-cons}
use lib.Bits.{xor_self, xor_zero_r, xor_assoc}
use Rattle.media_types.specs.Distance.{distance_of}
use Rattle.media_types.specs.declared.hash.Hash64.{Hash64}
use Rattle.media_types.specs.declared.numbers.HashNo.{HashNo}
use Rattle.spare_tables.specs.Firsts.{of_first}
use Rattle.word_chunks.specs.ChunkLaws.{quarter}
use Rattle.word_chunks.specs.Chunked.{IsChunked}
use Rattle.word_chunks.specs.Chunks.{chunk, chunk_distance, row_of, word_at, words_at}
use Rattle.word_chunks.specs.MaskLaws.{one_at, one_at-same, one_at-other, IsMasks}
use Rattle.word_chunks.specs.Masks.{masks_below}
use Rattle.word_chunks.specs.Reading.{reads, reads_at, reads_in}
use Rattle.word_chunks.specs.Rows.{words_in}
use Rattle.word_chunks.specs.Searching.{hit}
use Rattle.word_chunks.specs.Telling.{is_first, is_told, told, told_in}
use Rattle.word_chunks.proofs.Sorting.{found_times-none, IsFoundOnce}

abbrev Row : Type 0
Row = (ℕ × ℕ) × Hash64

-- ---- the words of each value in one place or another
pub told_in-same : (c : ℕ) (q : Hash64) (w : ℕ) (old new : ℕ → List Row) (masks : List ℕ) → ((v : ℕ) → old v ≡ new v) → told_in c q w old masks ≡ told_in c q w new masks
told_in-same c q w old new [] same = refl
told_in-same c q w old new (mask ∷ masks) same =
    ap (λ rows. flat_map (told c q w) rows ++ told_in c q w old masks) (same (bit_xor (chunk c q) mask))
    ∙ ap (λ later. flat_map (told c q w) (new (bit_xor (chunk c q) mask)) ++ later) (told_in-same c q w old new masks same)

pub reads_in-same : (c : ℕ) (q : Hash64) (old new : ℕ → List Row) (masks : List ℕ) → ((v : ℕ) → old v ≡ new v) → reads_in c q old masks ≡ reads_in c q new masks
reads_in-same c q old new [] same = refl
reads_in-same c q old new (mask ∷ masks) same =
    omega (
      arith,
      sum_by-cons (λ m. reads_at (length (old (bit_xor (chunk c q) m)))) mask masks,
      sum_by-cons (λ m. reads_at (length (new (bit_xor (chunk c q) m)))) mask masks,
      ap (λ rows. reads_at (length rows)) (same (bit_xor (chunk c q) mask)),
      reads_in-same c q old new masks same,
    )

-- ---- how often a word is told
abbrev found : ℕ → List (HashNo × ℕ) → ℕ
found j hits = sum_by (λ h. one_at j h.0.0) hits

found-append : (j : ℕ) (xs ys : List (HashNo × ℕ)) → found j (xs ++ ys) ≡ found j xs + found j ys
found-append j xs ys = sum_by-append (λ h. one_at j h.0.0) xs ys

cond-found : (b : Bool) (j : ℕ) (h : HashNo × ℕ) → found j (cond b (h ∷ []) []) ≡ cond b (one_at j h.0.0) 0
cond-found true j h = omega arith
cond-found false j h = refl

cond-zero : (b : Bool) (n : ℕ) → n ≡ 0 → cond b n 0 ≡ 0
cond-zero true n e = e
cond-zero false n e = refl

module _ (ws : List Hash64) (q : Hash64) (w c : ℕ) where
  -- what the word of a number tells, and what the words of m numbers from one on tell at a value
  abbrev told_of : ℕ → List (HashNo × ℕ)
  told_of k = told c q w (row_of c ws k)

  abbrev told_from : ℕ → ℕ → ℕ → List (HashNo × ℕ)
  told_from v a m = flat_map (told c q w) (of_first v (map (row_of c ws) (range_with_len a m)))

  flat-cond : (b : Bool) (row : Row) (rows : List Row) → flat_map (told c q w) (cond b (row ∷ rows) rows) ≡ cond b (told c q w row) [] ++ flat_map (told c q w) rows
  flat-cond true row rows = refl
  flat-cond false row rows = refl

  told_from-more : (v a m : ℕ) → told_from v a (suc m) ≡ cond (chunk c (word_at ws a) == v) (told_of a) [] ++ told_from v (a + 1) m
  told_from-more v a m = flat-cond (chunk c (word_at ws a) == v) (row_of c ws a) (of_first v (map (row_of c ws) (range_with_len (a + 1) m)))

  cond-none : (b : Bool) (j : ℕ) (xs : List (HashNo × ℕ)) → found j xs ≡ 0 → found j (cond b xs []) ≡ 0
  cond-none true j xs e = e
  cond-none false j xs e = refl

  cond-on : (b : Bool) (xs : List (HashNo × ℕ)) → b ≡ true → cond b xs [] ≡ xs
  cond-on b xs e = ap (λ t. cond t xs []) e

  cond-off : (b : Bool) (xs : List (HashNo × ℕ)) → b ≡ false → cond b xs [] ≡ []
  cond-off b xs e = ap (λ t. cond t xs []) e

  told-other : (j k : ℕ) → k ≢ j → found j (told_of k) ≡ 0
  told-other j k ne =
      cond-found (is_told c q w (word_at ws k)) j (hit ws q k) ∙ cond-zero (is_told c q w (word_at ws k)) (one_at j k) (one_at-other j k ne)

  told-itself : (j : ℕ) → distance_of q (word_at ws j) ≤ w → found j (told_of j) ≡ cond (is_first c (w / 4) q (word_at ws j)) 1 0
  told-itself j near =
      cond-found (is_told c q w (word_at ws j)) j (hit ws q j)
      ∙ ap (λ t. cond (t && is_first c (w / 4) q (word_at ws j)) (one_at j j) 0) (le-leb (distance_of q (word_at ws j)) w near)
      ∙ ap (λ t. cond (is_first c (w / 4) q (word_at ws j)) t 0) (one_at-same j)

  found-more : (v j a m : ℕ) → found j (told_from v a (suc m)) ≡ found j (cond (chunk c (word_at ws a) == v) (told_of a) []) + found j (told_from v (a + 1) m)
  found-more v j a m = ap (found j) (told_from-more v a m) ∙ found-append j (cond (chunk c (word_at ws a) == v) (told_of a) []) (told_from v (a + 1) m)

  told-past : (v j m a : ℕ) → j < a → found j (told_from v a m) ≡ 0
  told-past v j zero a lt = refl
  told-past v j (suc m) a lt =
      omega (
        arith,
        found-more v j a m,
        cond-none (chunk c (word_at ws a) == v) j (told_of a) (told-other j a (λ e. omega (arith, e, lt))),
        told-past v j m (a + 1) (omega (arith, lt)),
      )

  -- the words of another value don't tell a word
  told-apart : (v j m a : ℕ) → chunk c (word_at ws j) ≢ v → found j (told_from v a m) ≡ 0
  told-apart v j zero a ne = refl
  told-apart v j (suc m) a ne =
      let first : found j (cond (chunk c (word_at ws a) == v) (told_of a) []) ≡ 0 =
      elim (eqb_tells a j) [
        | inl same ↦ elim (eqb_tells (chunk c (word_at ws a)) v) [
          | inl here ↦ absurd (ne (ap (λ k. chunk c (word_at ws k)) (sym same.1) ∙ here.1))
          | inr away ↦ ap (found j) (cond-off (chunk c (word_at ws a) == v) (told_of a) away.0)
        ]
        | inr other ↦ cond-none (chunk c (word_at ws a) == v) j (told_of a) (told-other j a other.1)
      ] in
      omega (arith, found-more v j a m, first, told-apart v j m (a + 1) ne)

  told-there : (v j m a : ℕ) → chunk c (word_at ws j) ≡ v → a ≤ j → j < a + m → distance_of q (word_at ws j) ≤ w
      → found j (told_from v a m) ≡ cond (is_first c (w / 4) q (word_at ws j)) 1 0
  told-there v j zero a e le lt near = absurd (omega (arith, le, lt))
  told-there v j (suc m) a e le lt near =
      elim (eqb_tells a j) [
        | inl same ↦
            let here : chunk c (word_at ws a) ≡ v = ap (λ k. chunk c (word_at ws k)) same.1 ∙ e in
            let first : found j (cond (chunk c (word_at ws a) == v) (told_of a) []) ≡ cond (is_first c (w / 4) q (word_at ws j)) 1 0 =
            elim (eqb_tells (chunk c (word_at ws a)) v) [
              | inl equal ↦ ap (found j) (cond-on (chunk c (word_at ws a) == v) (told_of a) equal.0)
                  ∙ ap (λ k. found j (told_of k)) same.1 ∙ told-itself j near
              | inr differ ↦ absurd (differ.1 here)
            ] in
            omega (arith, found-more v j a m, first, told-past v j m (a + 1) (omega (arith, same.1)))
        | inr other ↦
            omega (
              arith,
              found-more v j a m,
              cond-none (chunk c (word_at ws a) == v) j (told_of a) (told-other j a other.1),
              told-there v j m (a + 1) e (omega (arith, le, other.1)) (omega (arith, lt)) near,
            )
      ]

  abbrev told_near : List ℕ → List (HashNo × ℕ)
  told_near masks = told_in c q w (words_at c ws) masks

  abbrev told_mask : ℕ → List (HashNo × ℕ)
  told_mask mask = flat_map (told c q w) (words_at c ws (bit_xor (chunk c q) mask))

xor-back : (a b : ℕ) → bit_xor a (bit_xor a b) ≡ b
xor-back a b = sym (xor_assoc a a b) ∙ ap (λ n. bit_xor n b) (xor_self a) ∙ xor_comm 0 b ∙ xor_zero_r b

module _ (ws : List Hash64) (q : Hash64) (w c j : ℕ) (inside : j < length ws) (near : distance_of q (word_at ws j) ≤ w) where
  -- where no chunk before is near, a chunk tells a word as often as its mask is there
  told-masks : (masks : List ℕ) → is_first c (w / 4) q (word_at ws j) ≡ true
      → found j (told_near ws q w c masks) ≡ sum_by (one_at (bit_xor (chunk c q) (chunk c (word_at ws j)))) masks
  told-masks [] e = refl
  told-masks (m ∷ masks) e =
      let mask : ℕ = bit_xor (chunk c q) (chunk c (word_at ws j)) in
      let head : found j (told_mask ws q w c m) ≡ one_at (bit_xor (chunk c q) (chunk c (word_at ws j))) m =
      elim (eqb_tells m (bit_xor (chunk c q) (chunk c (word_at ws j)))) [
        | inl same ↦
            told-there ws q w c (bit_xor (chunk c q) m) j (length ws) 0 (sym (ap (bit_xor (chunk c q)) same.1 ∙ xor-back (chunk c q) (chunk c (word_at ws j)))) (omega arith) (omega (arith, inside)) near
            ∙ ap (λ t. cond t 1 0) e ∙ sym (ap (λ t. cond t 1 0) same.0)
        | inr other ↦
            told-apart ws q w c (bit_xor (chunk c q) m) j (length ws) 0
            (λ k. other.1 (sym (xor-back (chunk c q) m) ∙ ap (bit_xor (chunk c q)) (sym k)))
            ∙ sym (ap (λ t. cond t 1 0) other.0)
      ] in
      omega (
        arith,
        found-append j (told_mask ws q w c m) (told_near ws q w c masks),
        head,
        sum_by-cons (one_at (bit_xor (chunk c q) (chunk c (word_at ws j)))) m masks,
        told-masks masks e,
      )

  told-later-one : (v : ℕ) → is_first c (w / 4) q (word_at ws j) ≡ false → found j (told_from ws q w c v 0 (length ws)) ≡ 0
  told-later-one v e =
      elim (eqb_tells (chunk c (word_at ws j)) v) [
        | inl same ↦ told-there ws q w c v j (length ws) 0 same.1 (omega arith) (omega (arith, inside)) near ∙ ap (λ t. cond t 1 0) e
        | inr other ↦ told-apart ws q w c v j (length ws) 0 other.1
      ]

  -- where a chunk before is near, a chunk doesn't tell a word
  told-later : (masks : List ℕ) → is_first c (w / 4) q (word_at ws j) ≡ false → found j (told_near ws q w c masks) ≡ 0
  told-later [] e = refl
  told-later (m ∷ masks) e =
      omega (
        arith,
        found-append j (told_mask ws q w c m) (told_near ws q w c masks),
        told-later-one (bit_xor (chunk c q) m) e,
        told-later masks e,
      )

  told-first : (masks : List ℕ) → IsMasks 65536 (w / 4) masks → is_first c (w / 4) q (word_at ws j) ≡ true
      → chunk_distance c q (word_at ws j) ≤ w / 4 → found j (told_near ws q w c masks) ≡ 1
  told-first masks M e le =
      told-masks masks e
      ∙ M.each (bit_xor (chunk c q) (chunk c (word_at ws j))) (xor_lt 16 (chunk c q) (chunk c (word_at ws j)) (omega arith) (omega arith)) le

  told-far : (masks : List ℕ) → IsMasks 65536 (w / 4) masks → is_first c (w / 4) q (word_at ws j) ≡ true
      → w / 4 < chunk_distance c q (word_at ws j) → found j (told_near ws q w c masks) ≡ 0
  told-far masks M e far =
      told-masks masks e
      ∙ found_times-none (λ m. m) (bit_xor (chunk c q) (chunk c (word_at ws j))) masks
      (λ k d l. let both : ((get_or masks k d < 65536) × (count_ones (get_or masks k d) ≤ w / 4)) = M.few k d l in
      λ same. let ones : count_ones (get_or masks k d) ≡ chunk_distance c q (word_at ws j) = ap count_ones same in omega (arith, ones, both.1, far))

-- ---- all chunks
first-on : (c r : ℕ) (q x : Hash64) → is_first c r q x ≡ true → r < chunk_distance c q x → is_first (suc c) r q x ≡ true
first-on c r q x e lt = ap (λ t. t && is_first c r q x) (lt-ltb r (chunk_distance c q x) lt) ∙ e

first-off : (c r : ℕ) (q x : Hash64) → chunk_distance c q x ≤ r → is_first (suc c) r q x ≡ false
first-off c r q x le = ap (λ t. t && is_first c r q x) (le-ltb r (chunk_distance c q x) le)

and-false : (b : Bool) → (b && false) ≡ false
and-false true = refl
and-false false = refl

first-stays : (c r : ℕ) (q x : Hash64) → is_first c r q x ≡ false → is_first (suc c) r q x ≡ false
first-stays c r q x e = ap (λ t. nat_lt r (chunk_distance c q x) && t) e ∙ and-false (nat_lt r (chunk_distance c q x))

abbrev pub told_all : List Hash64 → Hash64 → ℕ → List ℕ → List (HashNo × ℕ)
told_all ws q w masks =
    ((told_in 0 q w (words_at 0 ws) masks ++ told_in 1 q w (words_at 1 ws) masks) ++ told_in 2 q w (words_at 2 ws) masks) ++ told_in 3 q w (words_at 3 ws) masks

found-all : (ws : List Hash64) (q : Hash64) (w j : ℕ) (masks : List ℕ) → found j (told_all ws q w masks)
    ≡ found j (told_near ws q w 0 masks) + found j (told_near ws q w 1 masks) + found j (told_near ws q w 2 masks) + found j (told_near ws q w 3 masks)
found-all ws q w j masks =
    omega (
      arith,
      found-append j ((told_near ws q w 0 masks ++ told_near ws q w 1 masks) ++ told_near ws q w 2 masks) (told_near ws q w 3 masks),
      found-append j (told_near ws q w 0 masks ++ told_near ws q w 1 masks) (told_near ws q w 2 masks),
      found-append j (told_near ws q w 0 masks) (told_near ws q w 1 masks),
    )

-- a near word is told once
told-once : (ws : List Hash64) (q : Hash64) (w j : ℕ) (masks : List ℕ) → IsMasks 65536 (w / 4) masks → j < length ws
    → distance_of q (word_at ws j) ≤ w → found j (told_all ws q w masks) ≡ 1
told-once ws q w j masks M lt near =
    elim (cases_lt (w / 4) (chunk_distance 0 q (word_at ws j))) [
      | inr le0 ↦
          let f1 : is_first 1 (w / 4) q (word_at ws j) ≡ false = first-off 0 (w / 4) q (word_at ws j) le0 in
          let f2 : is_first 2 (w / 4) q (word_at ws j) ≡ false = first-stays 1 (w / 4) q (word_at ws j) f1 in
          let f3 : is_first 3 (w / 4) q (word_at ws j) ≡ false = first-stays 2 (w / 4) q (word_at ws j) f2 in
          omega (arith, found-all ws q w j masks, told-first ws q w 0 j lt near masks M refl le0, told-later ws q w 1 j lt near masks f1, told-later ws q w 2 j lt near masks f2, told-later ws q w 3 j lt near masks f3)
      | inl l0 ↦
          let t1 : is_first 1 (w / 4) q (word_at ws j) ≡ true = first-on 0 (w / 4) q (word_at ws j) refl l0 in
          elim (cases_lt (w / 4) (chunk_distance 1 q (word_at ws j))) [
            | inr le1 ↦
                let f2 : is_first 2 (w / 4) q (word_at ws j) ≡ false = first-off 1 (w / 4) q (word_at ws j) le1 in
                let f3 : is_first 3 (w / 4) q (word_at ws j) ≡ false = first-stays 2 (w / 4) q (word_at ws j) f2 in
                omega (arith, found-all ws q w j masks, told-far ws q w 0 j lt near masks M refl l0, told-first ws q w 1 j lt near masks M t1 le1, told-later ws q w 2 j lt near masks f2, told-later ws q w 3 j lt near masks f3)
            | inl l1 ↦
                let t2 : is_first 2 (w / 4) q (word_at ws j) ≡ true = first-on 1 (w / 4) q (word_at ws j) t1 l1 in
                elim (cases_lt (w / 4) (chunk_distance 2 q (word_at ws j))) [
                  | inr le2 ↦
                      let f3 : is_first 3 (w / 4) q (word_at ws j) ≡ false = first-off 2 (w / 4) q (word_at ws j) le2 in
                      omega (arith, found-all ws q w j masks, told-far ws q w 0 j lt near masks M refl l0, told-far ws q w 1 j lt near masks M t1 l1, told-first ws q w 2 j lt near masks M t2 le2, told-later ws q w 3 j lt near masks f3)
                  | inl l2 ↦
                      let t3 : is_first 3 (w / 4) q (word_at ws j) ≡ true = first-on 2 (w / 4) q (word_at ws j) t2 l2 in
                      let le3 : chunk_distance 3 q (word_at ws j) ≤ w / 4 =
                      elim (quarter q (word_at ws j) w near) [
                        | inl a ↦ absurd (omega (arith, a, l0))
                        | inr o ↦ elim o [
                          | inl a ↦ absurd (omega (arith, a, l1))
                          | inr p ↦ elim p [
                            | inl a ↦ absurd (omega (arith, a, l2))
                            | inr a ↦ a
                          ]
                        ]
                      ] in
                      omega (arith, found-all ws q w j masks, told-far ws q w 0 j lt near masks M refl l0, told-far ws q w 1 j lt near masks M t1 l1, told-far ws q w 2 j lt near masks M t2 l2, told-first ws q w 3 j lt near masks M t3 le3)
                ]
          ]
    ]

-- ---- what is told is right
abbrev IsRight : List Hash64 → Hash64 → ℕ → (HashNo × ℕ) → Type 0
IsRight ws q w h = (h.0.0 < length ws) × (h ≡ hit ws q h.0.0) × (h.1 ≤ w)

cond-right : (b : Bool) (ws : List Hash64) (q : Hash64) (w k : ℕ) (f : Bool) → (nat_le (hit ws q k).1 w && f) ≡ b → k < length ws
    → All (IsRight ws q w) (cond b (hit ws q k ∷ []) [])
cond-right true ws q w k f e lt =
    let near : (hit ws q k).1 ≤ w = leb-true (hit ws q k).1 w (and_parts (nat_le (hit ws q k).1 w) f e).0 in
    All-cons (IsRight ws q w) (hit ws q k) [] (lt, refl, near) (All-nil (IsRight ws q w))
cond-right false ws q w k f e lt = All-nil (IsRight ws q w)

cond-all : (b : Bool) (P : (HashNo × ℕ) → Type 0) (xs : List (HashNo × ℕ)) → All P xs → All P (cond b xs [])
cond-all true P xs h = h
cond-all false P xs h = All-nil P

from-right : (ws : List Hash64) (q : Hash64) (w c v m a : ℕ) → a + m ≤ length ws → All (IsRight ws q w) (told_from ws q w c v a m)
from-right ws q w c v zero a le = All-nil (IsRight ws q w)
from-right ws q w c v (suc m) a le =
    rw (told_from-more ws q w c v a m)
    (All-append (IsRight ws q w) (cond (chunk c (word_at ws a) == v) (told_of ws q w c a) []) (told_from ws q w c v (a + 1) m)
    (cond-all (chunk c (word_at ws a) == v) (IsRight ws q w) (told_of ws q w c a)
    (cond-right (is_told c q w (word_at ws a)) ws q w a (is_first c (w / 4) q (word_at ws a)) refl (omega (arith, le))))
    (from-right ws q w c v m (a + 1) (omega (arith, le))))

in-right : (ws : List Hash64) (q : Hash64) (w c : ℕ) (masks : List ℕ) → All (IsRight ws q w) (told_near ws q w c masks)
in-right ws q w c [] = All-nil (IsRight ws q w)
in-right ws q w c (m ∷ masks) =
    All-append (IsRight ws q w) (told_mask ws q w c m) (told_near ws q w c masks)
    (from-right ws q w c (bit_xor (chunk c q) m) (length ws) 0 (omega arith)) (in-right ws q w c masks)

pub found-once : (ws : List Hash64) (q : Hash64) (w : ℕ) (masks : List ℕ) → IsMasks 65536 (w / 4) masks → IsFoundOnce ws q w (told_all ws q w masks)
found-once ws q w masks M = record {
  right = All-append (IsRight ws q w) ((told_near ws q w 0 masks ++ told_near ws q w 1 masks) ++ told_near ws q w 2 masks) (told_near ws q w 3 masks)
      (All-append (IsRight ws q w) (told_near ws q w 0 masks ++ told_near ws q w 1 masks) (told_near ws q w 2 masks)
      (All-append (IsRight ws q w) (told_near ws q w 0 masks) (told_near ws q w 1 masks) (in-right ws q w 0 masks) (in-right ws q w 1 masks)) (in-right ws q w 2 masks)) (in-right ws q w 3 masks);
  each = λ j lt near. told-once ws q w j masks M lt near;
}

-- ---- what the four tables tell, and what is read of them
module _ (first second third fourth : List Row) (h : IsChunked first second third fourth) (q : Hash64) (w : ℕ) (masks : List ℕ) where
  pub told-gathered : (h0 h1 h2 h3 h4 : List (HashNo × ℕ)) → h0 ≡ []
      → h1 ≡ h0 ++ told_in 0 q w (λ v. of_first v first) masks → h2 ≡ h1 ++ told_in 1 q w (λ v. of_first v second) masks
      → h3 ≡ h2 ++ told_in 2 q w (λ v. of_first v third) masks → h4 ≡ h3 ++ told_in 3 q w (λ v. of_first v fourth) masks
      → h4 ≡ told_all (words_in first) q w masks
  told-gathered h0 h1 h2 h3 h4 e0 e1 e2 e3 e4 =
      let t0 = told_in-same 0 q w (λ v. of_first v first) (words_at 0 (words_in first)) masks h.by_first.words in
      let t1 = told_in-same 1 q w (λ v. of_first v second) (words_at 1 (words_in first)) masks h.by_second.words in
      let t2 = told_in-same 2 q w (λ v. of_first v third) (words_at 2 (words_in first)) masks h.by_third.words in
      let t3 = told_in-same 3 q w (λ v. of_first v fourth) (words_at 3 (words_in first)) masks h.by_fourth.words in
      let a1 : h1 ≡ told_near (words_in first) q w 0 masks = e1 ∙ ap (λ t. t ++ told_in 0 q w (λ v. of_first v first) masks) e0 ∙ t0 in
      let a2 : h2 ≡ told_near (words_in first) q w 0 masks ++ told_near (words_in first) q w 1 masks =
      e2 ∙ ap (λ t. t ++ told_in 1 q w (λ v. of_first v second) masks) a1 ∙ ap (λ t. told_near (words_in first) q w 0 masks ++ t) t1 in
      let a3 : h3 ≡ (told_near (words_in first) q w 0 masks ++ told_near (words_in first) q w 1 masks) ++ told_near (words_in first) q w 2 masks =
      e3 ∙ ap (λ t. t ++ told_in 2 q w (λ v. of_first v third) masks) a2
      ∙ ap (λ t. (told_near (words_in first) q w 0 masks ++ told_near (words_in first) q w 1 masks) ++ t) t2 in
      e4 ∙ ap (λ t. t ++ told_in 3 q w (λ v. of_first v fourth) masks) a3
      ∙ ap (λ t. ((told_near (words_in first) q w 0 masks ++ told_near (words_in first) q w 1 masks) ++ told_near (words_in first) q w 2 masks) ++ t) t3

  pub reads-gathered : masks ≡ masks_below (w / 4) 65536
      → reads_in 0 q (λ v. of_first v first) masks + reads_in 1 q (λ v. of_first v second) masks
      + reads_in 2 q (λ v. of_first v third) masks + reads_in 3 q (λ v. of_first v fourth) masks ≡ reads (words_in first) q w
  reads-gathered are =
      omega (
        arith,
        reads_in-same 0 q (λ v. of_first v first) (words_at 0 (words_in first)) masks h.by_first.words,
        reads_in-same 1 q (λ v. of_first v second) (words_at 1 (words_in first)) masks h.by_second.words,
        reads_in-same 2 q (λ v. of_first v third) (words_at 2 (words_in first)) masks h.by_third.words,
        reads_in-same 3 q (λ v. of_first v fourth) (words_at 3 (words_in first)) masks h.by_fourth.words,
        ap (reads_in 0 q (words_at 0 (words_in first))) are,
        ap (reads_in 1 q (words_at 1 (words_in first))) are,
        ap (reads_in 2 q (words_at 2 (words_in first))) are,
        ap (reads_in 3 q (words_at 3 (words_in first))) are,
      )

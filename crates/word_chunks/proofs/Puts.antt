-- A row is put among others: it goes behind those of its value, and its word behind all others.
use Rattle.std.proofs.Common.{◌≡◌, ◌≢◌, ◌∙◌, ℕ, zero, suc, ◌+◌, ◌<◌, ◌≤◌, ◌==◌, Bool, true, false, cond, inl, inr, List, [], ◌∷◌, ◌++◌, length, map, filter, get_or, set, replicate, All, refl, sym, ap, arith, length-append, append_assoc, get_or-set_other}
use Rattle.std.specs.BTreeMap.{insert_entry}
use Rattle.std.specs.List.{range_with_len}
use Rattle.std.specs.List.Sorted.{IsStrictlySortedBy}
use Rattle.std.specs.Map.{keys_of}
use Rattle.std.specs.declared.cmp.Ordering.TheVariants.{Less, Equal, Greater}
use Rattle.std.proofs.lemmas.Bool.Decides.{eqb_tells}
use Rattle.std.proofs.lemmas.Bool.{cases_lt}
use Rattle.std.proofs.lemmas.Grind.{common_steps}
use Rattle.std.proofs.lemmas.List.{append-nil, get_or_append_left, get_or_push}
use Rattle.std.proofs.lemmas.List.Elements.{All-cons, All-head, All-nil, All-tail}
use Rattle.std.proofs.lemmas.List.FromFn.{map-range_with_len_more, filter_of_map_range_with_len_more, length-map-range_with_len}
use Rattle.std.proofs.lemmas.Map.Keys.{sorted_tail}
use Rattle.media_types.specs.declared.hash.Hash64.{Hash64}
use Rattle.spare_tables.specs.Firsts.{AscendFrom, of_first}
use Rattle.spare_tables.specs.FirstLaws.{AscendFrom-from, of_first-other}
use Rattle.spare_tables.specs.KeyLaws.{by_ordering}
use Rattle.spare_tables.specs.Keys.{rows_from}
use Rattle.spare_tables.specs.Order.{pair_cmp, pair_exact}
use Rattle.spare_tables.specs.PairLaws.{pair_less, pair_says}
use Rattle.word_chunks.specs.Chunked.{IsChunk}
use Rattle.word_chunks.specs.Chunks.{chunk, row_of, word_at, words_at}
use Rattle.word_chunks.specs.Rows.{word_in, words_in, IsCounted}

abbrev Row : Type 0
Row = (ℕ × ℕ) × Hash64

-- a test of two numbers that are the same, and of two others
pub if-same : {X : Type 0} (a b : ℕ) (x y : X) → a ≡ b → cond (a == b) x y ≡ x
if-same a b x y e = elim (eqb_tells a b) [ inl same ↦ ap (λ t. cond t x y) same.0 | inr other ↦ absurd (other.1 e) ]

pub if-other : {X : Type 0} (a b : ℕ) (x y : X) → a ≢ b → cond (a == b) x y ≡ y
if-other a b x y ne = elim (eqb_tells a b) [ inl same ↦ absurd (ne same.1) | inr other ↦ ap (λ t. cond t x y) other.0 ]

-- ---- the rows of a first number
none_of_lesser : (u : ℕ) (row : Row) (rows : List Row) → IsStrictlySortedBy pair_cmp (keys_of (row ∷ rows)) → u < row.0.0 → of_first u (row ∷ rows) ≡ []
none_of_lesser u row rows sorted lower =
    let less : pair_cmp (u, 0) row.0 ≡ Less = (pair_less (u, 0) row.0).1 (inl lower) in
    let ascend = rw less at (AscendFrom-from u (row ∷ rows) sorted) in
    (of_first-other u row rows ascend (λ same. omega (arith, same, lower))).0

-- a row with a greater number than all others, and one before it in the order of the pairs
before_row : (u n : ℕ) (row : Row) (rows : List Row) → pair_cmp (u, n) row.0 ≡ Less → row.0.1 < n → u < row.0.0
before_row u n row rows less below = elim (pair_says (u, n) row.0 Less less) [ inl lower ↦ lower | inr both ↦ absurd (omega (arith, both.1, below)) ]

not_same : (u n : ℕ) (row : Row) → pair_cmp (u, n) row.0 ≡ Equal → row.0.1 < n → ⊥
not_same u n row equal below =
    let second : n ≡ row.0.1 = ap (λ (key : ℕ × ℕ). key.1) (pair_exact (u, n) row.0 equal) in
    omega (arith, second, below)

cond-push : (b : Bool) (row : Row) (rows later : List Row) → cond b (row ∷ (rows ++ later)) (rows ++ later) ≡ cond b (row ∷ rows) rows ++ later
cond-push true row rows later = refl
cond-push false row rows later = refl

front : (u v : ℕ) (row : Row) (rows : List Row) → (u ≡ v → rows ≡ []) → cond (u == v) (row ∷ rows) rows ≡ rows ++ cond (u == v) (row ∷ []) []
front u v row rows none = elim (eqb_tells u v) [
  | inl same ↦ rw (none same.1) refl
  | inr other ↦ rw other.0 (sym (append-nil rows))
]

pub of_first-put : (u n : ℕ) (w : Hash64) (rows : List Row) → IsStrictlySortedBy pair_cmp (keys_of rows) → All (λ (row : Row). row.0.1 < n) rows
    → (v : ℕ) → of_first v (insert_entry pair_cmp rows (u, n) w) ≡ of_first v rows ++ cond (u == v) (((u, n), w) ∷ []) []
of_first-put u n w [] sorted below v = refl
of_first-put u n w (row ∷ rows) sorted below v =
    let here : row.0.1 < n = All-head (λ (r : Row). r.0.1 < n) row rows below in
    by_ordering (pair_cmp (u, n) row.0)
    (λ less. rw less (front u v ((u, n), w) (of_first v (row ∷ rows))
    (λ same. ap (λ x. of_first x (row ∷ rows)) (sym same) ∙ none_of_lesser u row rows sorted (before_row u n row rows less here))))
    (λ equal. absurd (not_same u n row equal here))
    (λ greater. rw (greater, of_first-put u n w rows (sorted_tail pair_cmp _ _ sorted) (All-tail (λ (r : Row). r.0.1 < n) row rows below) v)
    (cond-push (row.0.0 == v) row (of_first v rows) (cond (u == v) (((u, n), w) ∷ []) [])))

-- ---- the number of rows
pub length-put : (u n : ℕ) (w : Hash64) (rows : List Row) → All (λ (row : Row). row.0.1 < n) rows → length (insert_entry pair_cmp rows (u, n) w) ≡ length rows + 1
length-put u n w [] below = refl
length-put u n w (row ∷ rows) below =
    let here : row.0.1 < n = All-head (λ (r : Row). r.0.1 < n) row rows below in
    by_ordering (pair_cmp (u, n) row.0)
    (λ less. rw less (omega arith))
    (λ equal. absurd (not_same u n row equal here))
    (λ greater. rw greater (omega (arith, length-put u n w rows (All-tail (λ (r : Row). r.0.1 < n) row rows below))))

-- ---- the words by number
word_in-other : (u n k : ℕ) (w : Hash64) (rows : List Row) → All (λ (row : Row). row.0.1 < n) rows → k < n → word_in (insert_entry pair_cmp rows (u, n) w) k ≡ word_in rows k
word_in-other u n k w [] below lt = if-other n k w (record { 0 = 0 }) (λ same. omega (arith, same, lt))
word_in-other u n k w (row ∷ rows) below lt =
    let here : row.0.1 < n = All-head (λ (r : Row). r.0.1 < n) row rows below in
    by_ordering (pair_cmp (u, n) row.0)
    (λ less. rw less (if-other n k w (word_in (row ∷ rows) k) (λ same. omega (arith, same, lt))))
    (λ equal. absurd (not_same u n row equal here))
    (λ greater. rw (greater, word_in-other u n k w rows (All-tail (λ (r : Row). r.0.1 < n) row rows below) lt) refl)

word_in-this : (u n : ℕ) (w : Hash64) (rows : List Row) → All (λ (row : Row). row.0.1 < n) rows → word_in (insert_entry pair_cmp rows (u, n) w) n ≡ w
word_in-this u n w [] below = if-same n n w (record { 0 = 0 }) refl
word_in-this u n w (row ∷ rows) below =
    let here : row.0.1 < n = All-head (λ (r : Row). r.0.1 < n) row rows below in
    by_ordering (pair_cmp (u, n) row.0)
    (λ less. rw less (if-same n n w (word_in (row ∷ rows) n) refl))
    (λ equal. absurd (not_same u n row equal here))
    (λ greater. rw greater
    (if-other row.0.1 n row.1 (word_in (insert_entry pair_cmp rows (u, n) w) n) (λ same. omega (arith, same, here))
    ∙ word_in-this u n w rows (All-tail (λ (r : Row). r.0.1 < n) row rows below)))

map-same : {X : Type 0} (f g : ℕ → X) (m a : ℕ) → ((k : ℕ) → k < a + m → f k ≡ g k) → map f (range_with_len a m) ≡ map g (range_with_len a m)
map-same f g zero a same = refl
map-same f g (suc m) a same =
    ap (λ x. x ∷ map f (range_with_len (a + 1) m)) (same a (omega arith))
    ∙ ap (λ xs. g a ∷ xs) (map-same f g m (a + 1) (λ k lt. same k (omega (arith, lt))))

pub words_in-put : (u : ℕ) (w : Hash64) (rows : List Row) → All (λ (row : Row). row.0.1 < length rows) rows
    → words_in (insert_entry pair_cmp rows (u, length rows) w) ≡ words_in rows ++ w ∷ []
words_in-put u w rows below =
    let put : List Row = insert_entry pair_cmp rows (u, length rows) w in
    ap (λ m. map (word_in put) (range_with_len 0 m)) (length-put u (length rows) w rows below)
    ∙ map-range_with_len_more (word_in put) 0 (length rows) (length rows) (omega arith)
    ∙ ap (λ xs. xs ++ word_in put (length rows) ∷ []) (map-same (word_in put) (word_in rows) (length rows) 0 (λ k lt. word_in-other u (length rows) k w rows below (omega (arith, lt))))
    ∙ ap (λ x. words_in rows ++ x ∷ []) (word_in-this u (length rows) w rows below)

-- ---- the counts
numbered-put : (u n : ℕ) (w : Hash64) (rows : List Row) → All (λ (row : Row). row.0.1 < n) rows → All (λ (row : Row). row.0.1 < n + 1) (insert_entry pair_cmp rows (u, n) w)
numbered-put u n w [] below = All-cons (λ (r : Row). r.0.1 < n + 1) ((u, n), w) [] (omega arith) (All-nil (λ (r : Row). r.0.1 < n + 1))
numbered-put u n w (row ∷ rows) below =
    let here : row.0.1 < n = All-head (λ (r : Row). r.0.1 < n) row rows below in
    let wider : All (λ (r : Row). r.0.1 < n + 1) (row ∷ rows) = λ k d lt. let low : (get_or (row ∷ rows) k d).0.1 < n = below k d lt in omega (arith, low) in
    by_ordering (pair_cmp (u, n) row.0)
    (λ less. rw less (All-cons (λ (r : Row). r.0.1 < n + 1) ((u, n), w) (row ∷ rows) (omega arith) wider))
    (λ equal. absurd (not_same u n row equal here))
    (λ greater. rw greater (All-cons (λ (r : Row). r.0.1 < n + 1) row (insert_entry pair_cmp rows (u, n) w) (omega (arith, here))
    (numbered-put u n w rows (All-tail (λ (r : Row). r.0.1 < n) row rows below))))

length-cond : (b : Bool) (row : Row) → length (cond b (row ∷ []) []) ≡ cond b 1 0
length-cond true row = refl
length-cond false row = refl

pub counted-put : (u : ℕ) (w : Hash64) (rows : List Row) (counts : List ℕ) → u < 65536 → IsStrictlySortedBy pair_cmp (keys_of rows)
    → IsCounted rows counts → IsCounted (insert_entry pair_cmp rows (u, length rows) w) (set counts u (get_or counts u 0 + 1))
counted-put u w rows counts lt sorted h =
    let values : (v : ℕ) → length (of_first v (insert_entry pair_cmp rows (u, length rows) w)) ≡ length (of_first v rows) + cond (u == v) 1 0 =
    λ v. ap length (of_first-put u (length rows) w rows sorted h.numbered v)
    ∙ omega (arith, length-append (of_first v rows) (cond (u == v) (((u, length rows), w) ∷ []) []), length-cond (u == v) ((u, length rows), w)) in
    record {
      numbered = λ k d l. let low : (get_or (insert_entry pair_cmp rows (u, length rows) w) k d).0.1 < length rows + 1 = numbered-put u (length rows) w rows h.numbered k d l in
          omega (arith, low, length-put u (length rows) w rows h.numbered);
      values = grind (arith, common_steps, h.values);
      counted = λ v lv. elim (eqb_tells u v) [
        | inl same ↦
            let there : get_or (set counts u (get_or counts u 0 + 1)) v 0 ≡ get_or counts u 0 + 1 = grind (arith, common_steps, h.values, lt, same.1) in
            let old : get_or counts u 0 ≡ length (of_first v rows) = h.counted u lt ∙ ap (λ x. length (of_first x rows)) same.1 in
            let one : ◌≡◌ {A = ℕ} (cond (u == v) 1 0) 1 = ap (λ b. cond b 1 0) same.0 in
            omega (arith, there, old, values v, one)
        | inr other ↦
            let there : get_or (set counts u (get_or counts u 0 + 1)) v 0 ≡ get_or counts v 0 = get_or-set_other counts u v (get_or counts u 0 + 1) 0 (λ (f : v ≡ u). other.1 (sym f)) in
            let none : ◌≡◌ {A = ℕ} (cond (u == v) 1 0) 0 = ap (λ b. cond b 1 0) other.0 in
            omega (arith, there, h.counted v lv, values v, none)
      ];
    }

pub counted-none : (counts : List ℕ) (n : ℕ) → n ≡ 65536 → counts ≡ replicate n 0 → IsCounted [] counts
counted-none counts n e zeros = record {
  numbered = All-nil (λ (row : Row). row.0.1 < 0);
  values = rw zeros (grind (arith, common_steps, e));
  counted = λ v lt. rw zeros (grind (arith, common_steps, e, lt));
}

-- ---- the words of a chunk, once one more is there
words_at-push : (c : ℕ) (ws : List Hash64) (w : Hash64) (v : ℕ) → words_at c (ws ++ w ∷ []) v ≡ words_at c ws v ++ cond (chunk c w == v) (((chunk c w, length ws), w) ∷ []) []
words_at-push c ws w v =
    let more : List Hash64 = ws ++ w ∷ [] in
    let last : word_at more (length ws) ≡ w = get_or_push ws w (record { 0 = 0 }) (length ws) refl in
    let row : row_of c more (length ws) ≡ ((chunk c w, length ws), w) = ap (λ x. ((chunk c x, length ws), x)) last in
    ap (λ m. of_first v (map (row_of c more) (range_with_len 0 m))) (length-append ws (w ∷ []))
    ∙ filter_of_map_range_with_len_more (λ r. r.0.0 == v) (row_of c more) 0 (length ws) (length ws) (omega arith)
    ∙ ap (λ xs. of_first v xs ++ cond ((row_of c more (length ws)).0.0 == v) (row_of c more (length ws) ∷ []) [])
    (map-same (row_of c more) (row_of c ws) (length ws) 0 (λ k lt. ap (λ x. ((chunk c x, k), x)) (get_or_append_left ws (w ∷ []) (record { 0 = 0 }) k (omega (arith, lt)))))
    ∙ ap (λ r. words_at c ws v ++ cond (r.0.0 == v) (r ∷ []) []) row

pub chunk-push : (c : ℕ) (ws : List Hash64) (w : Hash64) (u : ℕ) (old new : List Row) → IsChunk c ws old → u ≡ chunk c w
    → length new ≡ length old + 1 → ((v : ℕ) → of_first v new ≡ of_first v old ++ cond (u == v) (((u, length old), w) ∷ []) []) → IsChunk c (ws ++ w ∷ []) new
chunk-push c ws w u old new h eu len values = record {
  len = omega (arith, len, h.len, length-append ws (w ∷ []));
  words = λ v. values v
      ∙ ap (λ xs. xs ++ cond (u == v) (((u, length old), w) ∷ []) []) (h.words v)
      ∙ ap (λ x. words_at c ws v ++ cond (x == v) (((x, length old), w) ∷ []) []) eu
      ∙ ap (λ m. words_at c ws v ++ cond (chunk c w == v) (((chunk c w, m), w) ∷ []) []) h.len
      ∙ sym (words_at-push c ws w v);
}

pub chunk-none : (c : ℕ) → IsChunk c [] []
chunk-none c = record { len = refl; words = λ v. refl }

pub length-words_in : (rows : List Row) → length (words_in rows) ≡ length rows
length-words_in rows = length-map-range_with_len (word_in rows) 0 (length rows)

length-more : (b : Bool) (row : Row) (rows : List Row) → length (cond b (row ∷ rows) rows) ≤ length rows + 1
length-more true row rows = omega arith
length-more false row rows = omega arith

pub length-of_first : (v : ℕ) (rows : List Row) → length (of_first v rows) ≤ length rows
length-of_first v [] = omega arith
length-of_first v (row ∷ rows) = omega (arith, length-more (row.0.0 == v) row (of_first v rows), length-of_first v rows)

-- The tags and rows of two clusters.
use Rattle.std.proofs.Common.{◌≡◌, ◌∙◌, ℕ, ◌<◌, Bool, List, length, filter, get_or, All, ap, arith}
use Rattle.std.specs.List.{range_with_len}
use Rattle.std.proofs.lemmas.List.{length-map}
use Rattle.std.proofs.lemmas.List.Elements.{All-filter, All-from_get_or, filter_agree}
use Rattle.std.proofs.lemmas.List.FromFn.{get_or-range_with_len, length-range_with_len}
use Rattle.sibling_chains.specs.declared.relation_row.RelationRow.{RelationRow}
use Rattle.sibling_chains.specs.Clustered.{AreClustered, is_of_two, label_of}
use Rattle.sibling_chains.specs.Clusters.{rows_within}
use Rattle.sibling_chains.specs.Ends.{at}
use Rattle.sibling_chains.specs.Following.{Pair}
use Rattle.sibling_chains.specs.Grouping.{is_either, numbers_of}
use Rattle.sibling_chains.specs.Recorded.{no_row}
use Rattle.sibling_chains.specs.NumberLaws.{filter-by-place, passed-same}
use Rattle.sibling_chains.proofs.Joining.{row-label, rows-len}

pub passed-below : (test : ℕ → Bool) (m : ℕ) → All (λ n. n < m) (filter test (range_with_len 0 m))
passed-below test m =
    All-filter test (λ n. n < m) (range_with_len 0 m)
    (All-from_get_or (λ n. n < m) (range_with_len 0 m) 0 (λ i h. omega (arith, get_or-range_with_len 0 m i 0 (omega (arith, h, length-range_with_len 0 m)), h, length-range_with_len 0 m)))

module _ (rows : List RelationRow) (ties : List Pair) (of_tags of_rows : List ℕ) (h : AreClustered rows ties of_tags of_rows) (a b la lb : ℕ)
    (is-a : la ≡ label_of rows ties a) (is-b : lb ≡ label_of rows ties b) where
  either-of : (l m : ℕ) → l ≡ m → is_either la lb l ≡ is_either (label_of rows ties a) (label_of rows ties b) m
  either-of l m e =
      ap (is_either la lb) e
      ∙ ap (λ x. is_either x lb m) is-a
      ∙ ap (λ y. is_either (label_of rows ties a) y m) is-b

  pub gathered-tags : numbers_of la lb of_tags ≡ filter (is_of_two rows ties a b) (range_with_len 0 (length of_tags))
  gathered-tags = filter_agree (λ n. is_either la lb (at of_tags n)) (is_of_two rows ties a b) (λ n. either-of (at of_tags n) (label_of rows ties n) (h.labels n)) (range_with_len 0 (length of_tags))

  pub gathered-rows : numbers_of la lb of_rows ≡ filter (λ n. is_of_two rows ties a b (get_or rows n no_row).first.0) (range_with_len 0 (length rows))
  gathered-rows =
      ap (λ m. filter (λ n. is_either la lb (at of_rows n)) (range_with_len 0 m)) (rows-len rows ties of_tags of_rows h a b)
      ∙ passed-same (λ n. is_either la lb (at of_rows n)) (λ n. is_of_two rows ties a b (get_or rows n no_row).first.0) (length rows)
      (λ k less. either-of (at of_rows k) (label_of rows ties (get_or rows k no_row).first.0) (row-label rows ties of_tags of_rows h a b k less))

-- as many numbers as rows
pub rows-counted : (S : ℕ → Bool) (rows : List RelationRow) → length (rows_within S rows) ≡ length (filter (λ n. S (get_or rows n no_row).first.0) (range_with_len 0 (length rows)))
rows-counted S rows =
    ap (λ (l : List RelationRow). length l) (filter-by-place (λ row. S row.first.0) no_row rows)
    ∙ length-map (filter (λ n. S (get_or rows n no_row).first.0) (range_with_len 0 (length rows))) (λ n. get_or rows n no_row)

-- Tallies and least distances stay in step.
use Rattle.std.proofs.Common.{◌∙◌, ℕ, List, [], ◌∷◌, inl, inr, sym, ap}
use Rattle.spare_tables.specs.Keys.{value_of}
use Rattle.spare_tables.specs.Order.{pair_cmp}
use Rattle.potential_pairs.specs.Keeping.{AreTallyRows, least_of}
use Rattle.potential_pairs.specs.Planning.{with_changes, with_value}
use Rattle.potential_pairs.specs.Potential.{Row}
use Rattle.potential_pairs.specs.Tallies.{TallyRow, if_any, least_counted}
use Rattle.potential_pairs.specs.declared.tally.Tally.{Tally}
use Rattle.potential_pairs.proofs.Least.{least-if_any, some-if_any}
use Rattle.potential_pairs.proofs.Rows.{same_name, set_here, set_other, sorted-with_value}

pub with-tally : (tallies : List TallyRow) (pairs : List Row) (name : ℕ × ℕ) (tally : Tally) → AreTallyRows tallies pairs
    → AreTallyRows (with_value tallies name (if_any tally)) (with_value pairs name (least_counted tally))
with-tally tallies pairs name tally kept =
    let new = with_value tallies name (if_any tally) in
    let least = with_value pairs name (least_counted tally) in
    record {
      sorted = sorted-with_value tallies name (if_any tally) kept.sorted;
      pairs_sorted = sorted-with_value pairs name (least_counted tally) kept.pairs_sorted;
      some = λ q t has. elim (same_name q name) [
        | inl same ↦ some-if_any tally t (sym (set_here tallies name (if_any tally) kept.sorted) ∙ ap (value_of pair_cmp new) (sym same) ∙ has)
        | inr other ↦ kept.some q t (sym (set_other tallies name (if_any tally) q kept.sorted other) ∙ has)
      ];
      least = λ q. elim (same_name q name) [
        | inl same ↦
            ap (value_of pair_cmp least) same ∙ set_here pairs name (least_counted tally) kept.pairs_sorted ∙ least-if_any tally
            ∙ ap least_of (sym (ap (value_of pair_cmp new) same ∙ set_here tallies name (if_any tally) kept.sorted))
        | inr other ↦ set_other pairs name (least_counted tally) q kept.pairs_sorted other ∙ kept.least q ∙ ap least_of (sym (set_other tallies name (if_any tally) q kept.sorted other))
      ];
    }

pub with-tallies : (changes tallies : List TallyRow) (pairs : List Row) → AreTallyRows tallies pairs → AreTallyRows (with_changes if_any changes tallies) (with_changes least_counted changes pairs)
with-tallies [] tallies pairs kept = kept
with-tallies (change ∷ more) tallies pairs kept =
    with-tallies more (with_value tallies change.0 (if_any change.1)) (with_value pairs change.0 (least_counted change.1)) (with-tally tallies pairs change.0 change.1 kept)

-- What is read for a change of a pair: a look whether it stands, its plan, and whether a tag would imply too many.
use Rattle.std.proofs.Common.{◌≡◌, ◌≤◌, ◌+◌, ◌*◌, ℕ, true, arith, subst, sym}
use Rattle.media_base.specs.declared.change.TagPair.{TagPair}
use Rattle.media_base.specs.declared.reply.PairTags.{PairTags}
use Rattle.tag_relations.specs.Work.{cluster_work}
use Rattle.library_machine.specs.Needs.{has_tag}
use Rattle.library_machine.specs.Records.{Fits, Records}
use Rattle.library_machine.specs.Relating.{pair_tags, with_parent, with_sibling, without_parent, without_sibling}
use Rattle.library_tables.specs.Counting.{pair_work, relation_reads}
use Rattle.library_tables.specs.Tables.{TablesView, records_of}
use Rattle.library_tables.proofs.Implying.{child_work, more_reads, no_parent_work, no_sibling_work, parent_work, sibling_work, some_work}
use Rattle.library_tables.proofs.Pairing.{known_below}

module _ (r : Records) (pair : TagPair) (fits : Fits r) (before looked : ℕ) where
  abbrev tags : PairTags
  tags = pair_tags r pair

  -- of the two clusters among n tags
  abbrev work : ℕ → ℕ → ℕ → ℕ
  work n a b = cluster_work r.siblings r.parents n a b

  -- a look for a parent pair
  pub parent_looked : (n : ℕ) → looked ≤ before + 2 * work n tags.first.0 tags.first.0 → looked ≤ before + relation_reads (with_parent r pair) tags
  parent_looked n reads =
      let less = child_work r pair fits n in
      more_reads (with_parent r pair) tags (work n tags.first.0 tags.first.0) (work n tags.first.0 tags.first.0) before looked less less (omega (arith, reads))

  pub no_parent_looked : (n : ℕ) → has_tag r pair.first ≡ true → looked ≤ before + 2 * work n tags.first.0 tags.first.0 → looked ≤ before + relation_reads (without_parent r pair) tags
  no_parent_looked n first reads =
      let less = no_parent_work r pair fits n (known_below r pair.first first) in
      more_reads (without_parent r pair) tags (work n tags.first.0 tags.first.0) (work n tags.first.0 tags.first.0) before looked less less (omega (arith, reads))

  -- all that is read, where two clusters of the tables are
  in_all : (t : TablesView) (after : Records) (look a b ready now : ℕ) → records_of t ≡ r → look ≤ pair_work after tags → work t.relations.siblings.tags a b ≤ pair_work after tags
      → looked ≤ before + 2 * look → ready ≤ looked + 7 * work t.relations.siblings.tags a b → now ≤ ready + 16 * cluster_work t.relations.siblings.rows t.relations.parents.rows t.relations.siblings.tags a b
      → now ≤ before + relation_reads after tags
  in_all t after look a b ready now same less le seen planned told =
      let rest : now ≤ ready + 16 * work t.relations.siblings.tags a b = subst (λ (r : Records). now ≤ ready + 16 * cluster_work r.siblings r.parents t.relations.siblings.tags a b) same told in
      more_reads after tags look (work t.relations.siblings.tags a b) before now less le (omega (arith, seen, planned, rest))

  module _ (t : TablesView) (same : records_of t ≡ r) (ready now : ℕ) where
    abbrev n : ℕ
    n = t.relations.siblings.tags

    -- the plan of a pair of two tags
    abbrev IsPlanRead : ℕ → ℕ → Type 0
    IsPlanRead a b = ready ≤ looked + 7 * work n a b

    abbrev IsLimitRead : ℕ → ℕ → Type 0
    IsLimitRead a b = now ≤ ready + 16 * cluster_work t.relations.siblings.rows t.relations.parents.rows n a b

    pub sibling_read : (numbers : PairTags) → numbers ≡ tags → looked ≤ before + 2 → IsPlanRead numbers.first.0 numbers.second.0 → IsLimitRead numbers.first.0 numbers.second.0
        → now ≤ before + relation_reads (with_sibling r pair) tags
    sibling_read numbers is seen planned told =
        let le = subst (λ (numbers : PairTags). work n numbers.first.0 numbers.second.0 ≤ pair_work (with_sibling r pair) tags) (sym is) (sibling_work r pair fits n) in
        in_all t (with_sibling r pair) 1 numbers.first.0 numbers.second.0 ready now same (some_work (with_sibling r pair) tags) le seen planned told

    pub no_sibling_read : has_tag r pair.first ≡ true → looked ≤ before + 2 → IsPlanRead tags.first.0 tags.first.0 → IsLimitRead tags.first.0 tags.first.0
        → now ≤ before + relation_reads (without_sibling r pair) tags
    no_sibling_read first seen planned told =
        in_all t (without_sibling r pair) 1 tags.first.0 tags.first.0 ready now same (some_work (without_sibling r pair) tags) (no_sibling_work r pair fits n (known_below r pair.first first)) seen planned told

    pub parent_read : (m : ℕ) (numbers : PairTags) → numbers ≡ tags → looked ≤ before + 2 * work m tags.first.0 tags.first.0 → IsPlanRead numbers.first.0 numbers.second.0
        → IsLimitRead numbers.first.0 numbers.second.0 → now ≤ before + relation_reads (with_parent r pair) tags
    parent_read m numbers is seen planned told =
        let le = subst (λ (numbers : PairTags). work n numbers.first.0 numbers.second.0 ≤ pair_work (with_parent r pair) tags) (sym is) (parent_work r pair fits n) in
        in_all t (with_parent r pair) (work m tags.first.0 tags.first.0) numbers.first.0 numbers.second.0 ready now same (child_work r pair fits m) le seen planned told

    pub no_parent_read : (m : ℕ) → has_tag r pair.first ≡ true → looked ≤ before + 2 * work m tags.first.0 tags.first.0 → IsPlanRead tags.first.0 tags.first.0 → IsLimitRead tags.first.0 tags.first.0
        → now ≤ before + relation_reads (without_parent r pair) tags
    no_parent_read m first seen planned told =
        let below = known_below r pair.first first in
        in_all t (without_parent r pair) (work m tags.first.0 tags.first.0) tags.first.0 tags.first.0 ready now same (no_parent_work r pair fits m below) (no_parent_work r pair fits n below) seen planned told

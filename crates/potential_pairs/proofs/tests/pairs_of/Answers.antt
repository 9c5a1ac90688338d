use Rattle.std.proofs.Common.{◌≡◌, ◌∙◌, ◌<◌, ℕ, true, List, [], ◌∷◌, All, sym, ap, subst, rules}
use Rattle.std.specs.BTreeMap.{insert_entry}
use Rattle.std.proofs.lemmas.List.Elements.{All-cons, All-head, All-nil, All-tail}
use Rattle.spare_tables.specs.KeyLaws.{by_ordering}
use Rattle.spare_tables.specs.Order.{pair_cmp}
use Rattle.relation_groups.specs.Reading.{relations_in, size_of}
use Rattle.potential_pairs.specs.Planning.{AreFound, Found, IsFound, after, with_found}
use Rattle.potential_pairs.specs.Potential.{AreBelow, AreOf, PairsView, Row}
use Rattle.potential_pairs.proofs.PlannedRows.{found-again}
use Rattle.potential_pairs.proofs.tests.pairs_of.Goals as goal

below-put : (n : ℕ) (near : List Row) (files : ℕ × ℕ) (d : ℕ) → AreBelow n near → files.0 < files.1 → files.1 < n → AreBelow n (insert_entry pair_cmp near files d)
below-put n [] files d below lower there = All-cons (λ (row : Row). (row.0.0 < row.0.1) × (row.0.1 < n)) (files, d) [] (lower, there) below
below-put n (row ∷ near) files d below lower there =
    let P = λ (r : Row). (r.0.0 < r.0.1) × (r.0.1 < n) in
    let first = All-head P row near below in
    let rest = All-tail P row near below in
    by_ordering (pair_cmp files row.0)
    (λ less. rw less (All-cons P (files, d) (row ∷ near) (lower, there) below))
    (λ equal. rw equal (All-cons P (row.0, d) near first rest))
    (λ greater. rw greater (All-cons P row (insert_entry pair_cmp near files d) first (below-put n near files d rest lower there)))

below-found : (n : ℕ) (near seen : List Row) (found : List Found) → AreBelow n near → All (IsFound n seen) found → AreBelow n (with_found found near)
below-found n near seen [] below each = below
below-found n near seen (first ∷ more) below each =
    let here = All-head (IsFound n seen) first more each in
    below-found n (insert_entry pair_cmp near (first.0.0, first.1.0) first.2) seen more (below-put n near (first.0.0, first.1.0) first.2 below here.lower here.there) (All-tail (IsFound n seen) first more each)

pub loop-turn-init : goal.loop-turn-init
loop-turn-init g c =
    let found = c.args.found.now in
    let n = size_of c.args.groups.now in
    let pairs : c.are_pairs.result ≡ true = search rules in
    let agree : c.agree.result ≡ true = search rules in
    let each = rw (c.as_slice.ensures, c.len.ensures.size) at (c.are_pairs.ensures.0 pairs) in
    let alike = rw c.as_slice-2.ensures at (c.agree.ensures agree) in
    record {
      of = c.new-pairs.ensures.of (relations_in c.args.groups.now);
      found = record {
        each = λ i d within.
            let is = each i d within in
            record { lower = is.0; there = is.1; shallow = is.2; same = λ e has. let none = rw c.new-pairs.ensures.near at has in cc };
        alike = alike;
      };
      below = rw c.new-pairs.ensures.near (All-nil (λ (row : Row). (row.0.0 < row.0.1) × (row.0.1 < n)));
    }

pub loop-turn-preserved : goal.loop-turn-preserved
loop-turn-preserved g c =
    let done : c.commit.new.self.rows ≡ after c.in_ok-plan.plan c.plan_found.new.self.rows = c.commit.ensures in
    let near : with_found c.args.found.now c.loop-turn.pairs.rows.near ≡ c.commit.new.self.rows.near = sym c.in_ok-plan.ensures.near ∙ sym (ap (λ (rows : PairsView). rows.near) done) in
    record {
      of = subst (AreOf (relations_in c.args.groups.now)) (sym done) c.in_ok-plan.ensures.of_after;
      found = subst (λ list. AreFound (size_of c.args.groups.now) list c.args.found.now) near (found-again (size_of c.args.groups.now) c.loop-turn.pairs.rows.near c.args.found.now c.loop-turn.invariant.found);
      below = subst (AreBelow (size_of c.args.groups.now)) near (below-found (size_of c.args.groups.now) c.loop-turn.pairs.rows.near c.loop-turn.pairs.rows.near c.args.found.now c.loop-turn.invariant.below c.loop-turn.invariant.found.each);
    }

pub returns-clause-of : goal.returns-clause-of
returns-clause-of g c = c.loop-turn.invariant.of

pub returns-clause-below : goal.returns-clause-below
returns-clause-below g c = c.loop-turn.invariant.below

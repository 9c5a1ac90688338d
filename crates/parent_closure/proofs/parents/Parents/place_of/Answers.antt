use Rattle.std.proofs.Common.{◌≡◌, ◌∙◌, ◌<◌, ◌+◌, ℕ, List, length, true, false, get_or, ap, sym, subst, inl, inr, rules, arith, Bool, Some, None}
use Rattle.std.proofs.lemmas.Bool.{cases_lt}
use Rattle.std.proofs.lemmas.List.{length-map}
use Rattle.sibling_chains.specs.declared.relation_row.RelationRow.{RelationRow}
use Rattle.sibling_chains.specs.Recorded.{no_row}
use Rattle.sibling_chains.specs.RowLaws.{row-there}
use Rattle.parent_closure.specs.Kept.{Kept, IsFirstPlace, is_pair}
use Rattle.parent_closure.proofs.Places.{first-at, none-at, none-behind, none-between, places-few, places-next, places_below}
use Rattle.parent_closure.proofs.parents.Parents.place_of.Goals as goal

pub returns-then-is_pair-clause-place : goal.returns-then-is_pair-clause-place
returns-then-is_pair-clause-place g c =
    let inside = c.self.inside in
    let rows : List RelationRow = inside.rows.rows in
    let number = c.in-Some.number in
    let test : RelationRow → Bool = is_pair c.args.service.0 c.args.child.0 c.args.parent.0 in
    let len : length inside.children.labels ≡ length rows = ap (λ (l : List ℕ). length l) c.self.invariant.children ∙ length-map rows (λ row. row.first.0) in
    let view : rows ≡ c.args.self.now.rows = ap (λ (v : Kept). v.rows) c.self.view_is in
    let before = subst (λ (l : List RelationRow). (k : ℕ) → k < c.loop-number.from → test (get_or l k no_row) ≡ false) (sym view) c.loop-number.invariant.before in
    let here : test (get_or rows number no_row) ≡ true =
    ap test (ap (λ (l : List RelationRow). get_or l number no_row) view ∙ row-there c.args.self.now.rows number c.row.result c.row.ensures.row) ∙ sym c.is_pair.ensures ∙ c.if-is_pair.true in
    subst (λ (l : List RelationRow). IsFirstPlace test l (Some number)) view
    (first-at test rows number (omega (arith, c.in-Some.ensures.next.0, len)) here
    (none-between rows inside.children.labels c.args.service.0 c.args.child.0 c.args.parent.0 c.loop-number.from number c.self.invariant.children c.in-Some.ensures.next before len))

pub returns-then-is_pair-clause-reads : goal.returns-then-is_pair-clause-reads
returns-then-is_pair-clause-reads g c =
    let inside = c.self.inside in
    let rows : List RelationRow = inside.rows.rows in
    let number = c.in-Some.number in
    let len : length inside.children.labels ≡ length rows = ap (λ (l : List ℕ). length l) c.self.invariant.children ∙ length-map rows (λ row. row.first.0) in
    let view : rows ≡ c.args.self.now.rows = ap (λ (v : Kept). v.rows) c.self.view_is in
    let one = subst (λ (l : List RelationRow). places_below l c.args.child.0 (number + 1) ≡ places_below l c.args.child.0 c.loop-number.from + 1) view
    (places-next rows inside.children.labels c.args.child.0 c.loop-number.from number c.self.invariant.children len c.in-Some.ensures.next) in
    let size = ap (λ (l : List RelationRow). length l) view in
    let few = places-few c.args.self.now.rows c.args.child.0 (number + 1) (omega (arith, c.in-Some.ensures.next.0, len, size)) in
    omega (arith, one, few, c.loop-number.invariant.reads, c.next.ensures.steps, c.row.ensures.steps)

pub loop-number-preserved : goal.loop-number-preserved
loop-number-preserved g c =
    let inside = c.self.inside in
    let rows : List RelationRow = inside.rows.rows in
    let number = c.in-Some.number in
    let test : RelationRow → Bool = is_pair c.args.service.0 c.args.child.0 c.args.parent.0 in
    let len : length inside.children.labels ≡ length rows = ap (λ (l : List ℕ). length l) c.self.invariant.children ∙ length-map rows (λ row. row.first.0) in
    let view : rows ≡ c.args.self.now.rows = ap (λ (v : Kept). v.rows) c.self.view_is in
    let size = ap (λ (l : List RelationRow). length l) view in
    let before = subst (λ (l : List RelationRow). (k : ℕ) → k < c.loop-number.from → test (get_or l k no_row) ≡ false) (sym view) c.loop-number.invariant.before in
    let here : test (get_or c.args.self.now.rows number no_row) ≡ false =
    ap test (row-there c.args.self.now.rows number c.row.result c.row.ensures.row) ∙ sym c.is_pair.ensures ∙ c.if-is_pair.false in
    let between = none-between rows inside.children.labels c.args.service.0 c.args.child.0 c.args.parent.0 c.loop-number.from number c.self.invariant.children c.in-Some.ensures.next before len in
    let one = subst (λ (l : List RelationRow). places_below l c.args.child.0 (number + 1) ≡ places_below l c.args.child.0 c.loop-number.from + 1) view
    (places-next rows inside.children.labels c.args.child.0 c.loop-number.from number c.self.invariant.children len c.in-Some.ensures.next) in
    record {
      within = omega (arith, c.in-Some.ensures.next.0, len, size);
      reads = omega (arith, one, c.loop-number.invariant.reads, c.next.ensures.steps, c.row.ensures.steps);
      before = λ k less. elim (cases_lt k number) [
        | inl old ↦ subst (λ (l : List RelationRow). test (get_or l k no_row) ≡ false) view (between k old)
        | inr new ↦ let same : number ≡ k = omega (arith, less, new) in subst (λ n. test (get_or c.args.self.now.rows n no_row) ≡ false) same here
      ];
    }

pub returns-clause-place : goal.returns-clause-place
returns-clause-place g c =
    let inside = c.self.inside in
    let rows : List RelationRow = inside.rows.rows in
    let test : RelationRow → Bool = is_pair c.args.service.0 c.args.child.0 c.args.parent.0 in
    let len : length inside.children.labels ≡ length rows = ap (λ (l : List ℕ). length l) c.self.invariant.children ∙ length-map rows (λ row. row.first.0) in
    let view : rows ≡ c.args.self.now.rows = ap (λ (v : Kept). v.rows) c.self.view_is in
    let before = subst (λ (l : List RelationRow). (k : ℕ) → k < c.loop-number.from → test (get_or l k no_row) ≡ false) (sym view) c.loop-number.invariant.before in
    subst (λ (l : List RelationRow). IsFirstPlace test l None) view
    (none-at test rows (none-behind rows inside.children.labels c.args.service.0 c.args.child.0 c.args.parent.0 c.loop-number.from c.self.invariant.children (search (rules, c.in_default.ensures.next)) before len))

pub returns-clause-reads : goal.returns-clause-reads
returns-clause-reads g c =
    let few = places-few c.args.self.now.rows c.args.child.0 c.loop-number.from c.loop-number.invariant.within in
    omega (arith, few, c.loop-number.invariant.reads, c.next.ensures.steps)

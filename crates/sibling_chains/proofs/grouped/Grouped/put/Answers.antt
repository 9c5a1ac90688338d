use Rattle.std.proofs.Common.{◌≡◌, ◌<◌, ◌≤◌, ◌+◌, ◌↔◌, ◌≢◌, ℕ, List, Contains, length, sym, ap, subst, ◌∙◌, ◌-◌, min, arith}
use Rattle.std.specs.BTreeMap.{is_at}
use Rattle.std.specs.Cmp.{eq_by_cmp_equiv}
use Rattle.std.specs.Set.{remove_key}
use Rattle.std.proofs.lemmas.Map.Made.{length-remove_key}
use Rattle.std.proofs.lemmas.Map.Views.{list_any-from_Contains}
use Rattle.std.proofs.lemmas.List.{get_or_default}
use Rattle.spare_tables.specs.Order.{pair_cmp}
use Rattle.spare_tables.specs.PairLaws.{pair_order}
use Rattle.sibling_chains.specs.Ends.{at}
use Rattle.sibling_chains.specs.Following.{Pair}
use Rattle.sibling_chains.proofs.GroupLists.{put-grouped}
use Rattle.sibling_chains.proofs.grouped.Grouped.put.Goals as goal

-- a key that is taken out leaves one key less
one-less : (keys : List Pair) (key : Pair) → Contains keys key → length (remove_key (is_at (pair_cmp key)) keys) + 1 ≡ length keys
one-less keys key has = length-remove_key (is_at (pair_cmp key)) keys (list_any-from_Contains (eq_by_cmp_equiv pair_order) key keys has)

pub insert-requires : goal.insert-requires
insert-requires c =
    let s = c.self.inside in
    let labels : List ℕ = s.labels.items in
    let number = c.args.number in
    let known : number < length labels = rw (← c.self.view_is) at c.requires in
    let old : c.index-old.result.now ≡ at labels number = c.index-old.ensures ∙ get_or_default labels number c.index-old.result.now number known in
    let has : Contains s.members.rows (c.index-old.result.now, number) = (c.self.invariant.members c.index-old.result.now number).1 (known, sym old) in
    let less = one-less s.members.rows (c.index-old.result.now, number) has in
    let kept = ap (λ (l : List Pair). length l) c.remove.ensures.rows in
    omega (arith, less, kept, c.remove.ensures.room)

pub invariant_of-self : goal.invariant_of-self
invariant_of-self c =
    let s = c.self.inside in
    let labels : List ℕ = s.labels.items in
    let number = c.args.number in
    let known : number < length labels = rw (← c.self.view_is) at c.requires in
    let old : c.index-old.result.now ≡ at labels number = c.index-old.ensures ∙ get_or_default labels number c.index-old.result.now number known in
    let taken : (p : Pair) → Contains c.remove.new.self.rows p ↔ (Contains s.members.rows p × (p ≢ (at labels number, number))) =
    subst (λ l. (p : Pair) → Contains c.remove.new.self.rows p ↔ (Contains s.members.rows p × (p ≢ (l, number)))) old c.remove.ensures.members in
    put-grouped labels s.members.rows c.remove.new.self.rows c.insert.new.self.rows number c.args.label c.self.invariant known taken c.insert.ensures.members

pub returns-clause-spare : goal.returns-clause-spare
returns-clause-spare c =
    let s = c.self.inside in
    let labels : List ℕ = s.labels.items in
    let number = c.args.number in
    let known : number < length labels = rw (← c.self.view_is) at c.requires in
    let old : c.index-old.result.now ≡ at labels number = c.index-old.ensures ∙ get_or_default labels number c.index-old.result.now number known in
    let has : Contains s.members.rows (c.index-old.result.now, number) = (c.self.invariant.members c.index-old.result.now number).1 (known, sym old) in
    let less = one-less s.members.rows (c.index-old.result.now, number) has in
    let kept = ap (λ (l : List Pair). length l) c.remove.ensures.rows in
    let more : s.members.spare ≤ c.insert.new.self.spare = omega (arith, less, kept, c.remove.ensures.room, c.insert.ensures.spare) in
    rw (← c.self.view_is) (min-more (s.labels.cap - s.labels.len) s.members.spare c.insert.new.self.spare more)
  where
    min-more : (a b c : ℕ) → b ≤ c → min a b ≤ min a c
    min-more a b c h = omega (arith, h)

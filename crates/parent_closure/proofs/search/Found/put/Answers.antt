use Rattle.std.proofs.Common.{◌≡◌, ◌∙◌, false, List, ℕ, [], ◌∷◌, ◌++◌, Contains, ap, sym, subst}
use Rattle.std.proofs.lemmas.Bool.{false_from_ne_true}
use Rattle.parent_closure.specs.Reached.{AreSeen, has, with_tag}
use Rattle.parent_closure.proofs.Searching.{seen-tag, tag-new, tag-old}
use Rattle.parent_closure.proofs.search.Found.put.Goals as goal

pub invariant_of-self-then-insert : goal.invariant_of-self-then-insert
invariant_of-self-then-insert c =
    let list : List ℕ = c.self.inside.tags.items in
    let keys : List ℕ = c.reserve.new.self.rows in
    let tag = c.args.tag in
    let seen : AreSeen list keys = subst (AreSeen list) (sym c.reserve.ensures.rows) c.self.invariant in
    let absent : Contains keys tag → ⊥ = rw c.if-insert.true at c.insert.ensures.new in
    let is_new : has list tag ≡ false = false_from_ne_true (has list tag) (λ here. absurd (absent ((seen tag).0 here))) in
    let new : c.push_reserved.new.self.items ≡ with_tag list tag = c.push_reserved.ensures.items ∙ ap (λ (l : List ℕ). l ++ tag ∷ []) c.reserve-2.ensures.items ∙ sym (tag-new list tag is_new) in
    subst (λ (l : List ℕ). AreSeen l c.insert.new.self.rows) (sym new) (seen-tag list keys c.insert.new.self.rows tag seen c.insert.ensures.members)

pub invariant_of-self-else-insert : goal.invariant_of-self-else-insert
invariant_of-self-else-insert c =
    let list : List ℕ = c.self.inside.tags.items in
    let keys : List ℕ = c.reserve.new.self.rows in
    let tag = c.args.tag in
    let seen : AreSeen list keys = subst (AreSeen list) (sym c.reserve.ensures.rows) c.self.invariant in
    let there : Contains keys tag = rw c.if-insert.false at c.insert.ensures.new in
    let same : c.reserve-2.new.self.items ≡ with_tag list tag = c.reserve-2.ensures.items ∙ sym (tag-old list tag ((seen tag).1 there)) in
    subst (λ (l : List ℕ). AreSeen l c.insert.new.self.rows) (sym same) (seen-tag list keys c.insert.new.self.rows tag seen c.insert.ensures.members)

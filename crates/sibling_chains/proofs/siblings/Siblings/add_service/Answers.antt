use Rattle.std.proofs.Common.{◌≡◌, ◌∙◌, ◌++◌, ◌∷◌, [], ℕ, List, length, sym, ap, subst, rules}
use Rattle.media_types.specs.declared.numbers.ServiceNo.{ServiceNo}
use Rattle.sibling_chains.specs.Known.{AreFolded}
use Rattle.sibling_chains.proofs.Refolding.{alone-of, folded-service}
use Rattle.sibling_chains.proofs.siblings.Siblings.add_service.Goals as goal

pub invariant_of-self : goal.invariant_of-self
invariant_of-self c =
    let s = c.self.inside in
    let orders : List (List ServiceNo) = s.orders.items in
    let number : c.len.result ≡ length orders = search rules in
    let own : c.push.new.self ≡ alone-of (length orders) =
    c.push.ensures ∙ ap (λ (l : List ServiceNo). l ++ (record { 0 = c.len.result }) ∷ []) c.new-own.ensures ∙ ap alone-of number in
    let new-orders = c.push_reserved.ensures.items ∙ ap (λ (o : List ServiceNo). orders ++ o ∷ []) own in
    let new-ends = c.push_reserved-2.ensures.items ∙ ap (λ (l : List ℕ). s.ends.items ++ l ∷ []) c.new.ensures in
    subst (λ l. AreFolded s.clusters.rows l c.push_reserved-2.new.self.items) (sym new-orders)
    (subst (λ l. AreFolded s.clusters.rows (orders ++ alone-of (length orders) ∷ []) l) (sym new-ends) (folded-service s.clusters.rows orders s.ends.items c.self.invariant))

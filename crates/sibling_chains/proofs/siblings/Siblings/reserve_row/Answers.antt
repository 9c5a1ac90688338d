use Rattle.std.proofs.Common.{◌≡◌, ◌∙◌, ◌-◌, min, cond, ap, rules}
use Rattle.sibling_chains.specs.Known.{are_long}
use Rattle.sibling_chains.specs.Clustered.{Clustered}
use Rattle.sibling_chains.proofs.siblings.Siblings.reserve_row.Goals as goal

pub returns-clause-same : goal.returns-clause-same
returns-clause-same c =
    let s = c.self.inside in
    let same = c.in_ok-reserve_row.ensures.same in
    let rows = ap (λ (v : Clustered). v.rows) same in
    let ties = ap (λ (v : Clustered). v.ties) same in
    let tags = ap (λ (v : Clustered). v.tags) same in
    let tag_room = ap (λ (v : Clustered). v.tag_room) same in
    let cap : c.grow_all.new.ends.cap ≡ s.ends.cap = c.grow_all.ensures.capacity in
    let len : c.grow_all.new.ends.len ≡ s.ends.len = search rules in
    let room : min (s.orders.cap - s.orders.len) (c.grow_all.new.ends.cap - c.grow_all.new.ends.len) ≡ min (s.orders.cap - s.orders.len) (s.ends.cap - s.ends.len) =
    ap (λ n. min (s.orders.cap - s.orders.len) (n - c.grow_all.new.ends.len)) cap ∙ ap (λ n. min (s.orders.cap - s.orders.len) (s.ends.cap - n)) len in
    rw (← c.self.view_is) (λ i. record { rows = rows i; ties = ties i; orders = s.orders.items; tags = tags i; tag_room = tag_room i; service_room = room i; row_room = cond (are_long c.reserve_row.new.self.tags c.grow_all.new.ends.items) c.reserve_row.new.self.row_room 0 })

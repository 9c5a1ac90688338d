use Rattle.std.proofs.Common.{◌≡◌, ◌≢◌, ◌<◌, List, length, Some, None, true, subst, refl, rules}
use Rattle.spare_tables.specs.Keys.{value_of}
use Rattle.spare_tables.specs.Order.{pair_cmp}
use Rattle.tag_types.specs.declared.limits.TheConstants.{MAX_RELATIONS}
use Rattle.sibling_chains.specs.declared.relation_row.RelationRow.{RelationRow}
use Rattle.sibling_chains.specs.Following.{Pair, good_of}
use Rattle.sibling_chains.specs.Recorded.{pairs_of, standing_at}
use Rattle.sibling_chains.proofs.Places.{no-good, placed-push}
use Rattle.sibling_chains.proofs.pair_rows.PairRows.push.Goals as goal

pub invariant_of-self : goal.invariant_of-self
invariant_of-self c =
    let s = c.self.inside in
    let rows : List RelationRow = s.rows.rows in
    let row : RelationRow = record { service = c.args.service; first = c.args.bad; second = c.args.good; standing = true } in
    let few : length rows < MAX_RELATIONS = rw (← c.self.view_is) at c.requires.few in
    let new : good_of (pairs_of rows c.args.service) c.args.bad.0 ≡ None = rw (← c.self.view_is) at c.requires.new in
    let none : standing_at c.args.service.0 c.args.bad.0 rows ≡ None = no-good c.args.service c.args.bad.0 rows new in
    let number : c.len-number.result ≡ length rows = search rules in
    let service : c.from.result ≡ c.args.service.0 = search rules in
    let this : value_of pair_cmp c.insert.new.self.rows (c.args.service.0, c.args.bad.0) ≡ Some (length rows) =
    rw (service, number) at c.insert.ensures.this in
    let others : (k : Pair) → k ≢ (c.args.service.0, c.args.bad.0) → value_of pair_cmp c.insert.new.self.rows k ≡ value_of pair_cmp s.places.rows k =
    subst (λ n. (k : Pair) → k ≢ (n, c.args.bad.0) → value_of pair_cmp c.insert.new.self.rows k ≡ value_of pair_cmp s.places.rows k) service c.insert.ensures.others in
    rw c.push.ensures.rows (placed-push rows s.places.rows c.insert.new.self.rows row c.self.invariant few refl none this others)

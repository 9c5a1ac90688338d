use Rattle.std.proofs.Common.{◌≡◌, ◌∙◌, ◌<◌, ◌==◌, ◌++◌, ◌∷◌, [], ℕ, List, All, Bool, cond, get_or, length, filter, true, sym, subst}
use Rattle.std.specs.List.{list_any, range_with_len}
use Rattle.std.proofs.lemmas.List.Elements.{All-push}
use Rattle.media_types.specs.declared.numbers.ServiceNo.{ServiceNo}
use Rattle.sibling_chains.specs.declared.relation_row.RelationRow.{RelationRow}
use Rattle.sibling_chains.specs.Clustered.{is_of_two}
use Rattle.sibling_chains.specs.Clusters.{rows_within}
use Rattle.sibling_chains.specs.Ends.{at, end_beside}
use Rattle.sibling_chains.specs.Known.{AreEndsFor, AreFolded}
use Rattle.sibling_chains.proofs.Gathered.{passed-below}
use Rattle.sibling_chains.proofs.Longs.{long-at}
use Rattle.sibling_chains.proofs.Refolding.{changes-add, known-tags, refolded, room-long}
use Rattle.sibling_chains.proofs.siblings.Siblings.add.Goals as goal

pub put_all_ends-requires-clause-known : goal.put_all_ends-requires-clause-known
put_all_ends-requires-clause-known c = λ s less.
    let v = c.self.inside.clusters in
    let ends : List (List ℕ) = c.self.inside.ends.items in
    let room = rw (← c.self.view_is) at c.requires.fits.room in
    let tags : c.args.it.refold.cluster.tags.items ≡ filter (is_of_two v.rows v.ties c.args.it.bad.0 c.args.it.good.0) (range_with_len 0 v.tags) = rw (← c.self.view_is) at c.requires.fits.refold.cluster.tags in
    known-tags v.tags c.as_slice.result.now (get_or ends s []) (long-at v.tags ends (room-long _ v.row_room room) s less)
    (subst (All (λ t. t < v.tags)) (sym (c.as_slice.ensures.value ∙ tags)) (passed-below (is_of_two v.rows v.ties c.args.it.bad.0 c.args.it.good.0) v.tags))

pub invariant_of-self : goal.invariant_of-self
invariant_of-self c =
    let v = c.self.inside.clusters in
    let rows : List RelationRow = v.rows in
    let ties = v.ties in
    let orders : List (List ServiceNo) = c.self.inside.orders.items in
    let ends : List (List ℕ) = c.self.inside.ends.items in
    let tags : List ℕ = c.args.it.refold.cluster.tags.items in
    let lists : List (List ℕ) = c.args.it.refold.ends.items in
    let S : ℕ → Bool = is_of_two rows ties c.args.it.bad.0 c.args.it.good.0 in
    let row : RelationRow = record { service = c.args.it.service; first = c.args.it.bad; second = c.args.it.good; standing = true } in
    let new-rows : List RelationRow = rows ++ row ∷ [] in
    let f : AreEndsFor tags (rows_within S new-rows) orders lists (length orders) = rw (← c.self.view_is) at c.requires.fits.refold.ends in
    let whole : (t : ℕ) → list_any (λ x. x == t) tags ≡ S t = rw (← c.self.view_is) at c.requires.fits.refold.cluster.whole in
    let by-tags : (s t : ℕ) → s < length ends → at (get_or c.put_all_ends.new.ends.items s []) t ≡ cond (list_any (λ x. x == t) tags) (end_beside tags (get_or c.as_slice-2.result.now s []) t) (at (get_or ends s []) t) =
    subst (λ l. (s t : ℕ) → s < length ends → at (get_or c.put_all_ends.new.ends.items s []) t ≡ cond (list_any (λ x. x == t) l) (end_beside l (get_or c.as_slice-2.result.now s []) t) (at (get_or ends s []) t)) c.as_slice.ensures.value c.put_all_ends.ensures.put in
    let put : (s t : ℕ) → s < length ends → at (get_or c.put_all_ends.new.ends.items s []) t ≡ cond (list_any (λ x. x == t) tags) (end_beside tags (get_or lists s []) t) (at (get_or ends s []) t) =
    subst (λ l. (s t : ℕ) → s < length ends → at (get_or c.put_all_ends.new.ends.items s []) t ≡ cond (list_any (λ x. x == t) tags) (end_beside tags (get_or l s []) t) (at (get_or ends s []) t)) c.as_slice-2.ensures.value by-tags in
    subst (λ l. AreFolded l orders c.put_all_ends.new.ends.items) (sym c.add.ensures.rows)
    (refolded rows new-rows orders ends lists c.put_all_ends.new.ends.items tags S c.self.invariant f whole c.put_all_ends.ensures.len put
    (changes-add rows ties row) (All-push (λ (r : RelationRow). r.service.0 < length orders) rows row c.self.invariant.services (rw (← c.self.view_is) at c.requires.fits.service)))

use Rattle.std.proofs.Common.{◌∙◌, take, get_or, [], sym, ap, arith}
use Rattle.std.proofs.lemmas.List.{get_or-map, length-map, take_more}
use Rattle.potential_pairs.specs.Planning.{with_changes, with_value}
use Rattle.potential_pairs.specs.Tallies.{TallyRow, if_any, least_counted}
use Rattle.potential_pairs.proofs.Rows.{with_changes_push}
use Rattle.potential_pairs.proofs.tally_map.TallyMap.set_all.Goals as goal

abbrev no_tally : TallyRow
no_tally = ((0, 0), record { counts = [] })

pub set-requires-clause-named : goal.set-requires-clause-named
set-requires-clause-named c =
    let all = c.requires.named c.loop-name.name-index (0, 0) (omega (arith, c.loop-name-test.true, length-map c.args.changes.now (λ (change : TallyRow). change.0))) in
    rw (get_or-map (λ (change : TallyRow). change.0) c.args.changes.now c.loop-name.name-index no_tally (0, 0) c.loop-name-test.true) at all

pub loop-name-preserved : goal.loop-name-preserved
loop-name-preserved c =
    let changes = c.args.changes.now in
    let i = c.loop-name.name-index in
    let this = get_or changes i no_tally in
    let more = take_more changes i no_tally c.loop-name-test.true in
    record {
      tallies = c.set.ensures.tallies ∙ ap (λ rows. with_value rows this.0 (if_any this.1)) c.loop-name.invariant.tallies
          ∙ sym (with_changes_push if_any (take i changes) this c.args.self.now.tallies)
          ∙ ap (λ list. with_changes if_any list c.args.self.now.tallies) (sym more);
      pairs = c.set.ensures.pairs ∙ ap (λ rows. with_value rows this.0 (least_counted this.1)) c.loop-name.invariant.pairs
          ∙ sym (with_changes_push least_counted (take i changes) this c.args.self.now.pairs)
          ∙ ap (λ list. with_changes least_counted list c.args.self.now.pairs) (sym more);
      room = omega (arith, c.set.ensures.spare, c.loop-name.invariant.room);
    }

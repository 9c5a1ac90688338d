use Rattle.std.proofs.Common.{◌≡◌, ◌∙◌, Some, ap}
use Rattle.potential_pairs.specs.Planning.{after, with_changes, with_live}
use Rattle.potential_pairs.specs.Potential.{KeptPairs, PairsView}
use Rattle.potential_pairs.specs.Tallies.{if_any, least_counted}
use Rattle.potential_pairs.proofs.pairs.Pairs.commit.Goals as goal

pub returns : goal.returns
unfolding after
returns c =
    let near = c.note_all.ensures ∙ ap (λ list. with_changes Some list c.self.inside.near.rows) c.near.ensures.rows in
    let tallies = c.set_all.ensures.tallies ∙ ap (λ list. with_changes if_any list c.self.inside.tallies.tallies) c.tallies.ensures in
    let pairs = c.set_all.ensures.pairs ∙ ap (λ list. with_changes least_counted list c.self.inside.tallies.pairs) c.tallies.ensures in
    let gone = c.set_live.ensures ∙ ap (λ live. with_live live c.self.inside.gone.rows) c.live.ensures in
    let made : PairsView = record { near = c.note_all.new.self.rows; gone = c.set_live.new.gone.rows; pairs = c.set_all.new.self.pairs; tallies = c.set_all.new.self.tallies } in
    let inside : PairsView = record { near = c.self.inside.near.rows; gone = c.self.inside.gone.rows; pairs = c.self.inside.tallies.pairs; tallies = c.self.inside.tallies.tallies } in
    let done : made ≡ after c.args.plan inside = λ i. record { near = near i; gone = gone i; pairs = pairs i; tallies = tallies i } in
    done ∙ ap (λ (kept : KeptPairs). after c.args.plan kept.rows) c.self.view_is

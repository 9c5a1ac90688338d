use Rattle.std.proofs.Common.{◌≢◌, []}
use Rattle.std.proofs.lemmas.List.Elements.{All-nil}
use Rattle.media_types.specs.declared.decision.Decision.{Decision}
use Rattle.potential_pairs.proofs.tests.four_files.Goals as goal

pub follow_all-requires-clause-made : goal.follow_all-requires-clause-made
follow_all-requires-clause-made g c = ([], All-nil (λ (d : Decision). d.a.0 ≢ d.b.0), c.in_ok-groups.ensures)

pub follow_all-requires-clause-of : goal.follow_all-requires-clause-of
follow_all-requires-clause-of g c = c.in_ok-pairs.ensures.of

pub follow_all-requires-clause-below : goal.follow_all-requires-clause-below
follow_all-requires-clause-below g c = c.in_ok-pairs.ensures.below

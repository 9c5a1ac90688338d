use Rattle.std.proofs.Common.{arith}
use Rattle.std.proofs.lemmas.Bool.{eqb-true}
use Rattle.media_tool.proofs.Cuts.{no_feed_found, no_feed_before, split_at_feed}
use Rattle.media_tool.proofs.lines.split_line.Goals as goal

pub returns-in-None : goal.returns-in-None
returns-in-None c = record { none = no_feed_found c.args.bytes.now c.in-None.ensures; line = tt; whole = tt }

pub returns-in-Some-clause-line : goal.returns-in-Some-clause-line
returns-in-Some-clause-line c =
    let found = c.in-Some.ensures in
    rw c.split_at.ensures.front (no_feed_before c.args.bytes.now c.in-Some.at (omega (arith, found.0.high)) found.0.before)

pub returns-in-Some-clause-whole : goal.returns-in-Some-clause-whole
returns-in-Some-clause-whole c =
    let found = c.in-Some.ensures in
    rw (c.split_at.ensures.front, c.split_at-in-Some.ensures.back, c.split_at.ensures.back) (split_at_feed c.args.bytes.now c.in-Some.at found.0.high (eqb-true _ _ found.1))

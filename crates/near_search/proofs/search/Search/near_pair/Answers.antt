use Rattle.std.proofs.Common.{◌∙◌, ◌<◌, ◌≤◌, ℕ, min, Option, Some, None, refl, sym, ap, arith}
use Rattle.near_search.proofs.AfterSearch.{distance_known, short_if_risen}
use Rattle.near_search.proofs.NearPairs.{near_enough, no_distance, not_itself, not_searched, too_far}
use Rattle.near_search.proofs.search.Search.near_pair.Goals as goal

pub returns-then-file-other-clause-pair : goal.returns-then-file-other-clause-pair
returns-then-file-other-clause-pair g c = sym (not_itself _ c.args.file c.args.other c.if-file-other.true)

pub returns-in_err-away-clause-pair : goal.returns-in_err-away-clause-pair
returns-in_err-away-clause-pair g c =
    let search = c.args.self.now in
    let rows = search.files.now.rows in
    c.from_residual.ensures ∙ sym (no_distance search.distance search.risen.now rows c.args.file c.args.other c.if-file-other.false
    (distance_known rows c.args.file.0 c.args.other.0 None c.requires.known c.requires.other c.in_err-away.ensures.distance))

pub returns-in_err-reach-clause-pair : goal.returns-in_err-reach-clause-pair
returns-in_err-reach-clause-pair g c =
    let search = c.args.self.now in
    let rows = search.files.now.rows in
    let far : Option ℕ = None in
    c.from_residual-in_err-reach.ensures ∙ sym (not_searched search.distance search.risen.now rows c.args.file c.args.other c.if-file-other.false
    c.in_ok-away.away far
    (distance_known rows c.args.file.0 c.args.other.0 (Some c.in_ok-away.away) c.requires.known c.requires.other c.in_ok-away.ensures.distance)
    c.requires.file (short_if_risen search.distance rows search.risen.now c.args.file.0 c.requires.risen c.requires.file)
    c.in_err-reach.ensures.reaches refl)

pub returns-then-away-from-clause-pair : goal.returns-then-away-from-clause-pair
returns-then-away-from-clause-pair g c =
    let search = c.args.self.now in
    let rows = search.files.now.rows in
    let h = c.in_ok-reach.ensures in
    let less : min search.distance c.in_ok-reach.reach < c.in_ok-away.away = omega arith in
    sym (too_far search.distance search.risen.now rows c.args.file c.args.other c.if-file-other.false
    c.in_ok-away.away (Some c.in_ok-reach.reach)
    (distance_known rows c.args.file.0 c.args.other.0 (Some c.in_ok-away.away) c.requires.known c.requires.other c.in_ok-away.ensures.distance)
    c.requires.file (short_if_risen search.distance rows search.risen.now c.args.file.0 c.requires.risen c.requires.file)
    c.in_ok-reach.ensures.reaches c.in_ok-reach.reach refl less)

pub returns-clause-pair : goal.returns-clause-pair
returns-clause-pair g c =
    let search = c.args.self.now in
    let rows = search.files.now.rows in
    let within : c.in_ok-away.away ≤ min search.distance c.in_ok-reach.reach = omega arith in
    ap Some c.in_order.ensures ∙ sym (near_enough search.distance search.risen.now rows c.args.file c.args.other c.if-file-other.false
    c.in_ok-away.away (Some c.in_ok-reach.reach)
    (distance_known rows c.args.file.0 c.args.other.0 (Some c.in_ok-away.away) c.requires.known c.requires.other c.in_ok-away.ensures.distance)
    c.requires.file (short_if_risen search.distance rows search.risen.now c.args.file.0 c.requires.risen c.requires.file)
    c.in_ok-reach.ensures.reaches c.in_ok-reach.reach refl within)

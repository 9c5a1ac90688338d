use Rattle.std.proofs.Common.{◌≡◌, ◌&&◌, true, arith, subst, sym}
use Rattle.std.proofs.lemmas.Bool.{lt-ltb}
use Rattle.library_machine.specs.Needs.{has_file}
use Rattle.library_tables.specs.Tables.{TablesView, records_of}
use Rattle.library_tables.proofs.Committing.{pairs_moved}
use Rattle.library_tables.proofs.Deciding.{decide_prepared, decided_related, sound_decided, sound_here}
use Rattle.library_tables.proofs.tables.Tables.plan_decide.Goals as goal

pub plan_moved-requires-clause-sound : goal.plan_moved-requires-clause-sound
plan_moved-requires-clause-sound g c = sound_here _ _ c.self.invariant c.plan_decide.ensures.same

pub plan_moved-requires-clause-sound_after : goal.plan_moved-requires-clause-sound_after
plan_moved-requires-clause-sound_after g c =
    let d = c.args.decision in
    let there = subst (λ (t : TablesView). (has_file (records_of t) d.a && has_file (records_of t) d.b) ≡ true) (sym c.self.view_is) (sym c.if-not-has_both.ensures) in
    sound_decided _ _ d _ c.self.invariant
    (record { there = there; two = sym c.if-eq.ensures; few = lt-ltb _ _ (omega (arith, c.len-count.ensures.rows)) }) c.in_ok-groups.ensures.after

pub returns-clause-prepared : goal.returns-clause-prepared
returns-clause-prepared g c =
    let d = c.args.decision in
    let new : TablesView = record { files = c.self.inside.files; book = c.reserve.new.self; groups = c.plan_decide.new.self; tree = c.self.inside.tree; pairs = c.plan_moved.new.self; work = c.self.inside.upkeep; distance = c.self.inside.distance; tags = c.self.inside.tags; services = c.self.inside.services; mappings = c.self.inside.mappings; relations = c.self.inside.relations } in
    let rows = c.in_ok-reserve.ensures.rows in
    let there = subst (λ (t : TablesView). (has_file (records_of t) d.a && has_file (records_of t) d.b) ≡ true) (sym c.self.view_is) (sym c.if-not-has_both.ensures) in
    decide_prepared new (record { decision = d; groups = c.in_ok-groups.groups; pairs = c.in_ok-pairs.pairs }) c.len-count.result
    (rw rows c.self.invariant.fits) (record { there = there; two = sym c.if-eq.ensures; few = rw rows (lt-ltb _ _ (omega (arith, c.len-count.ensures.rows))) })
    (rw rows c.len-count.ensures.rows) c.in_ok-reserve.ensures.ok c.in_ok-groups.ensures.fits
    (rw rows (decided_related _ c.plan_decide.new.self d c.in_ok-groups.groups c.self.invariant c.in_ok-groups.ensures.after))
    (pairs_moved _ _ _ c.self.inside.pairs c.plan_moved.new.self c.in_ok-pairs.pairs c.self.invariant.paired c.in_ok-pairs.ensures.room c.in_ok-pairs.ensures.near c.in_ok-pairs.ensures.gone c.in_ok-pairs.ensures.of_after)

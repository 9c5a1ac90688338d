use Rattle.std.proofs.Common.{◌≡◌, Some, option_map, subst, sym}
use Rattle.library_machine.specs.RelatedLaws.{good_there}
use Rattle.library_machine.specs.Relating.{good_number, text_of}
use Rattle.library_tables.specs.Tables.{TablesView, records_of}
use Rattle.library_tables.proofs.Pairing.{found_text}
use Rattle.library_tables.proofs.tables.Tables.good_text.Goals as goal

pub text-requires : goal.text-requires
text-requires g c =
    good_there _ _ c.args.service c.in_ok-bad.bad.0 c.in_ok-good.good.0 c.self.inside.relations.siblings.rows c.self.invariant.fits.siblings (sym c.in_ok-good.ensures.good)

pub returns-clause-text : goal.returns-clause-text
returns-clause-text g c =
    let inside = c.self.inside in
    let view : TablesView = record { files = inside.files; book = inside.book; groups = inside.groups; tree = inside.tree; pairs = inside.pairs; work = inside.upkeep; distance = inside.distance; tags = inside.tags; services = inside.services; mappings = inside.mappings; relations = inside.relations } in
    let service = c.args.service in
    let text = c.args.text.now in
    subst (λ (t : TablesView). Some c.text.result.now ≡ option_map (text_of (records_of t)) (good_number (records_of t) service text)) c.self.view_is
    (found_text (records_of view) service text c.text.result.now c.in_ok-bad.bad.0 c.in_ok-good.good.0 c.in_ok-bad.ensures c.in_ok-good.ensures.good c.text.ensures)

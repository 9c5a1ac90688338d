use Rattle.std.proofs.Common.{arith}
use Rattle.tag_store.proofs.Keeping.{mirrored-set}
use Rattle.tag_store.proofs.mappings.Mappings.set.Goals as goal

pub invariant_of-self : goal.invariant_of-self
invariant_of-self c =
    let it = c.self.inside in
    rw (c.set_row.ensures.rows, c.set_row-2.ensures.rows, c.from-service.ensures)
    (mirrored-set it.by_tag.rows it.by_file.rows c.args.s.0 c.args.t.0 c.args.f.0 c.args.state (omega arith) (omega arith) c.self.invariant)

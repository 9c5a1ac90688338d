use Rattle.std.proofs.Common.{sym, subst}
use Rattle.media_base.specs.declared.command.Query.{Query}
use Rattle.library_tables.specs.Counting.{IsWithin, query_reads}
use Rattle.library_tables.specs.Tables.{records_of}
use Rattle.library_tables.proofs.tables.Tables.ask.Goals as goal

pub returns-in-Ideal-clause-reads : goal.returns-in-Ideal-clause-reads
returns-in-Ideal-clause-reads g c =
    let r = records_of c.args.self.now in
    subst (λ (query : Query). IsWithin (query_reads r query) c.args.steps.now c.tell_ideal.new.steps) (sym c.in-Ideal.is) c.tell_ideal.ensures.reads

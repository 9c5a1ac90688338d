use Rattle.std.proofs.Common.{◌≡◌, None, Some, subst}
use Rattle.std.proofs.lemmas.Bool.{eq-eqb, ne_eqb}
use Rattle.spare_tables.specs.PairLaws.{least_second}
use Rattle.spare_tables.specs.Table.{Table}
use Rattle.file_records.specs.declared.file_row.FileRow.{FileRow}
use Rattle.file_records.specs.Words.{next_with}
use Rattle.file_records.specs.AscendingLaws.{file_of}
use Rattle.file_records.proofs.Nexts.{next_is}
use Rattle.file_records.proofs.files.Files.files_of.Goals as goal

pub returns-in-Some-clause-next : goal.returns-in-Some-clause-next
returns-in-Some-clause-next g c =
    let pairs = c.self.inside.holders.rows in
    let h = c.args.hash.0 in
    let from = c.first_past-from.result in
    let second = least_second pairs h from (Some (c.in-Some.found, c.in-Some.file)) c.in-Some.ensures.least in
    subst (λ (files : Table FileRow). Some (file_of c.in-Some.file) ≡ next_with h c.args.after files.rows) c.self.view_is
    (next_is _ pairs c.self.inside.rows.items h c.args.after from (Some c.in-Some.file) c.self.invariant.1 c.self.invariant.0.few c.first_past-from.ensures
    (rw (eq-eqb c.in-Some.found h c.if-found-hash.true) at second))

pub returns-in_default-clause-next : goal.returns-in_default-clause-next
returns-in_default-clause-next g c =
    let pairs = c.self.inside.holders.rows in
    let h = c.args.hash.0 in
    let from = c.first_past-from.result in
    let second = least_second pairs h from (Some (c.in-Some.found, c.in-Some.file)) c.in-Some.ensures.least in
    subst (λ (files : Table FileRow). None ≡ next_with h c.args.after files.rows) c.self.view_is
    (next_is _ pairs c.self.inside.rows.items h c.args.after from None c.self.invariant.1 c.self.invariant.0.few c.first_past-from.ensures
    (rw (ne_eqb c.in-Some.found h c.if-found-hash.false) at second))

pub returns-in_default-2-clause-next : goal.returns-in_default-2-clause-next
returns-in_default-2-clause-next g c =
    let pairs = c.self.inside.holders.rows in
    let h = c.args.hash.0 in
    let from = c.first_past-from.result in
    subst (λ (files : Table FileRow). None ≡ next_with h c.args.after files.rows) c.self.view_is
    (next_is _ pairs c.self.inside.rows.items h c.args.after from None c.self.invariant.1 c.self.invariant.0.few c.first_past-from.ensures
    (least_second pairs h from None (rw c.in_default.is at c.range_from.ensures.least)))

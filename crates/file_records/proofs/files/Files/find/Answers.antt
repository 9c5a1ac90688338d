use Rattle.std.proofs.Common.{ap, sym}
use Rattle.spare_tables.specs.Table.{Table}
use Rattle.file_records.specs.declared.file_row.FileRow.{FileRow}
use Rattle.file_records.specs.LookupLaws.{unknown_is_not_found, not_found_is_unknown}
use Rattle.file_records.proofs.Lookups.{place_seen, found_has_sha}
use Rattle.file_records.proofs.files.Files.find.Goals as goal

pub returns-in_err-at-clause-place : goal.returns-in_err-at-clause-place
returns-in_err-at-clause-place c =
    rw c.from_residual.ensures (place_seen _ _ _ _ _ c.self.invariant.0.in_order (ap (λ (t : Table FileRow). t.rows) c.self.view_is) c.in_err-at.ensures.index)

pub returns-in_err-at-clause-missing : goal.returns-in_err-at-clause-missing
returns-in_err-at-clause-missing c =
    let none = place_seen _ _ _ _ _ c.self.invariant.0.in_order (ap (λ (t : Table FileRow). t.rows) c.self.view_is) c.in_err-at.ensures.index in
    (λ _. not_found_is_unknown _ _ (sym none), λ _. c.from_residual.ensures)

pub returns-clause-place : goal.returns-clause-place
returns-clause-place c =
    place_seen _ _ _ _ _ c.self.invariant.0.in_order (ap (λ (t : Table FileRow). t.rows) c.self.view_is) c.in_ok-at.ensures.index

pub returns-clause-found : goal.returns-clause-found
returns-clause-found c =
    let some = place_seen _ _ _ _ _ c.self.invariant.0.in_order (ap (λ (t : Table FileRow). t.rows) c.self.view_is) c.in_ok-at.ensures.index in
    found_has_sha _ _ _ (sym some)

pub returns-clause-missing : goal.returns-clause-missing
returns-clause-missing c =
    let some = place_seen _ _ _ _ _ c.self.invariant.0.in_order (ap (λ (t : Table FileRow). t.rows) c.self.view_is) c.in_ok-at.ensures.index in
    (λ none. absurd (cc), λ unknown. let none = unknown_is_not_found _ _ unknown in absurd (cc))

use Rattle.spare_tables.specs.BelowLaws.{below_sorted, below_value, same_values}
use Rattle.spare_tables.proofs.laws.row_laws.Goals as goal

pub returns-clause-same_rows : goal.returns-clause-same_rows
returns-clause-same_rows c = same_values

pub returns-clause-below_sorted : goal.returns-clause-below_sorted
returns-clause-below_sorted c = below_sorted

pub returns-clause-below_value : goal.returns-clause-below_value
returns-clause-below_value c = below_value

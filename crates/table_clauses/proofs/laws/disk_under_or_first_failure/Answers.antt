use Rattle.table_clauses.proofs.Decidability.{disk_under_or_first}
use Rattle.table_clauses.proofs.laws.disk_under_or_first_failure.Goals as goal

pub returns : goal.returns
returns c = disk_under_or_first

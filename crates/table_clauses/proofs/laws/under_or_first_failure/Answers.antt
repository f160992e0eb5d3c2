use Rattle.table_clauses.proofs.Decidability.{under_or_first}
use Rattle.table_clauses.proofs.laws.under_or_first_failure.Goals as goal

pub returns : goal.returns
returns c = under_or_first

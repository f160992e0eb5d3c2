use Rattle.table_clauses.proofs.NoFailures.{under_where_none}
use Rattle.table_clauses.proofs.laws.under_where_none_fails.Goals as goal

pub returns : goal.returns
returns c = λ steps book t. under_where_none steps book t

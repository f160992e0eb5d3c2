use Rattle.table_clauses.proofs.DiskNoFailures.{disk_under_where_none}
use Rattle.table_clauses.proofs.laws.disk_under_where_none_fails.Goals as goal

pub returns : goal.returns
returns c = λ steps book t. disk_under_where_none steps book t

use Rattle.table_clauses.proofs.DiskMeanings.{first_of_fresh, first_of_both}
use Rattle.table_clauses.proofs.disk.first_over_both.Goals as goal

pub returns-in-Some : goal.returns-in-Some
returns-in-Some c = first_of_fresh c.args.costs c.args.columns.now c.args.steps c.in-Some.entry c.in-Some.ensures

pub returns : goal.returns
returns c = first_of_both c.args.costs c.args.columns.now c.args.steps c.first_in_column-2.result c.in_default.ensures c.first_in_column-2.ensures

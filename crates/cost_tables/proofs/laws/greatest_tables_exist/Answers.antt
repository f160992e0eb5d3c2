use Rattle.cost_tables.proofs.TableExistence.{greatest_exist}
use Rattle.cost_tables.proofs.laws.greatest_tables_exist.Goals as goal

pub returns : goal.returns
returns c = greatest_exist

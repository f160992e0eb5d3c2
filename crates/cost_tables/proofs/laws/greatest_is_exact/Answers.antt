use Rattle.cost_tables.proofs.Recurrences.{exact_within}
use Rattle.cost_tables.proofs.laws.greatest_is_exact.Goals as goal

pub returns : goal.returns
returns c = exact_within

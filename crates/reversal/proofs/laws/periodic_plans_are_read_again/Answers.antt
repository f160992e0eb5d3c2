use Rattle.reversal.proofs.RunLists.{periodic_again}
use Rattle.reversal.proofs.laws.periodic_plans_are_read_again.Goals as goal

pub returns : goal.returns
returns c = periodic_again

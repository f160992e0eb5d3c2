use Rattle.reversal.proofs.DecisionLaws.{planned_again}
use Rattle.reversal.proofs.laws.plans_are_read_again.Goals as goal

pub returns : goal.returns
returns c = planned_again

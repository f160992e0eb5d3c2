use Rattle.reversal.proofs.DecisionLaws.{planned_least}
use Rattle.reversal.proofs.laws.revolve_plans_are_least.Goals as goal

pub returns : goal.returns
returns c = planned_least

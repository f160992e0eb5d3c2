use Rattle.multistage_gen.proofs.LeastCost.{planned_least}
use Rattle.multistage_gen.proofs.laws.planned_lists_are_least.Goals as goal

pub returns : goal.returns
returns c = planned_least

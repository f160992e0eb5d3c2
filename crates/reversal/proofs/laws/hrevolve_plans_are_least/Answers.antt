use Rattle.reversal.proofs.ClassPlans.{hrevolve_least}
use Rattle.reversal.proofs.laws.hrevolve_plans_are_least.Goals as goal

pub returns : goal.returns
returns c = hrevolve_least

use Rattle.reversal.proofs.ClassPlans.{multistage_least}
use Rattle.reversal.proofs.laws.multistage_plans_are_least.Goals as goal

pub returns : goal.returns
returns c = multistage_least

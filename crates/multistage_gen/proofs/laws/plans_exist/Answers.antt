use Rattle.multistage_gen.proofs.PlanExistence.{plan_exists}
use Rattle.multistage_gen.proofs.laws.plans_exist.Goals as goal

pub returns : goal.returns
returns c = plan_exists

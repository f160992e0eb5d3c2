use Rattle.hrevolve_gen.proofs.PlanUniqueness.{plan_unique}
use Rattle.hrevolve_gen.proofs.laws.plans_are_unique.Goals as goal

pub returns : goal.returns
returns c = plan_unique

use Rattle.multistage_gen.proofs.PlanUniqueness.{plans_unique}
use Rattle.multistage_gen.proofs.laws.plans_are_unique.Goals as goal

pub returns : goal.returns
returns c = plans_unique

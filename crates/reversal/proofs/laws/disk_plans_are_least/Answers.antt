use Rattle.reversal.proofs.ClassPlans.{disk_least}
use Rattle.reversal.proofs.laws.disk_plans_are_least.Goals as goal

pub returns : goal.returns
returns c = disk_least

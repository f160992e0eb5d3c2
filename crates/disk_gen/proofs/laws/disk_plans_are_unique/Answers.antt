use Rattle.disk_gen.proofs.DiskUniqueness.{disk_plan_unique}
use Rattle.disk_gen.proofs.laws.disk_plans_are_unique.Goals as goal

pub returns : goal.returns
returns c = disk_plan_unique

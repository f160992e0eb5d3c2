use Rattle.class_bounds.proofs.DiskCosts.{disk_costs}
use Rattle.class_bounds.proofs.laws.disk_lists_cost_at_least.Goals as goal

pub returns : goal.returns
returns c = disk_costs

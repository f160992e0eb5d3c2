use Rattle.class_bounds.proofs.NestedCosts.{nested_costs}
use Rattle.class_bounds.proofs.laws.nested_lists_cost_at_least.Goals as goal

pub returns : goal.returns
returns c = nested_costs

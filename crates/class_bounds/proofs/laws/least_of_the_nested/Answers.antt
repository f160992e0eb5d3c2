use Rattle.class_bounds.proofs.NestedCosts.{nested_least}
use Rattle.class_bounds.proofs.laws.least_of_the_nested.Goals as goal

pub returns : goal.returns
returns c = nested_least

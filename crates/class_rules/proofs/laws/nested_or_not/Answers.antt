use Rattle.class_rules.proofs.Decidability.{nested_or_not}
use Rattle.class_rules.proofs.laws.nested_or_not.Goals as goal

pub returns : goal.returns
returns c = nested_or_not

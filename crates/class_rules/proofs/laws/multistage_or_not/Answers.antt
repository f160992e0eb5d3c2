use Rattle.class_rules.proofs.MultistageMembership.{multistage_or_not as either}
use Rattle.class_rules.proofs.laws.multistage_or_not.Goals as goal

pub returns : goal.returns
returns c = either

use Rattle.schedule_rules.proofs.Decidability.{valid_or_broken}
use Rattle.schedule_rules.proofs.laws.lists_are_valid_or_broken.Goals as goal

pub returns : goal.returns
returns c = valid_or_broken

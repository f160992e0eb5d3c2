use Rattle.schedule_rules.proofs.RuleLaws.{valid_unbroken}
use Rattle.schedule_rules.proofs.laws.valid_lists_are_unbroken.Goals as goal

pub returns : goal.returns
returns c = valid_unbroken

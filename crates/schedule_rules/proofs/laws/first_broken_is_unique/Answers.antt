use Rattle.schedule_rules.proofs.RuleLaws.{one_break}
use Rattle.schedule_rules.proofs.laws.first_broken_is_unique.Goals as goal

pub returns : goal.returns
returns c = one_break

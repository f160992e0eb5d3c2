use Rattle.schedule_rules.proofs.RuleLaws.{valid_has_action, end_is_last}
use Rattle.schedule_rules.proofs.laws.end_reverse_is_last.Goals as goal

pub returns-clause-not_empty : goal.returns-clause-not_empty
returns-clause-not_empty c = valid_has_action

pub returns-clause-last : goal.returns-clause-last
returns-clause-last c = end_is_last

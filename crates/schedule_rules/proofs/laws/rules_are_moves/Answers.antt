use Rattle.schedule_rules.proofs.RuleLaws.{rules_moves_within}
use Rattle.schedule_rules.proofs.laws.rules_are_moves.Goals as goal

pub returns : goal.returns
returns c = rules_moves_within

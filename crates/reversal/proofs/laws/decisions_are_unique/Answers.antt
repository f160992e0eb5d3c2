use Rattle.reversal.proofs.DecisionLaws.{one_decision}
use Rattle.reversal.proofs.laws.decisions_are_unique.Goals as goal

pub returns : goal.returns
returns c = one_decision

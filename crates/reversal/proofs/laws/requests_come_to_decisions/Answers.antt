use Rattle.reversal.proofs.DecisionExistence.{decision_exists}
use Rattle.reversal.proofs.laws.requests_come_to_decisions.Goals as goal

pub returns : goal.returns
returns c = decision_exists

use Rattle.reversal.proofs.DecisionLaws.{certified_least}
use Rattle.reversal.proofs.laws.certified_lists_are_least.Goals as goal

pub returns : goal.returns
returns c = certified_least

use Rattle.rv_machine.proofs.ProductWords.{quotients}
use Rattle.rv_machine.proofs.laws.quotients_leave_remainders.Goals as goal

pub returns : goal.returns
returns c = quotients

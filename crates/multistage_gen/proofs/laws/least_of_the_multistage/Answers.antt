use Rattle.multistage_gen.proofs.Exchange.{multistage_least}
use Rattle.multistage_gen.proofs.laws.least_of_the_multistage.Goals as goal

pub returns : goal.returns
returns c = multistage_least

use Rattle.reversal.proofs.DecisionLaws.{deeds_output, deeds_steps}
use Rattle.reversal.proofs.laws.deeds_make_the_output.Goals as goal

pub returns-clause-bytes : goal.returns-clause-bytes
returns-clause-bytes c = deeds_output

pub returns-clause-steps : goal.returns-clause-steps
returns-clause-steps c = deeds_steps

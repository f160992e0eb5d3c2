use Rattle.rv_machine.proofs.StepCases.{steps}
use Rattle.rv_machine.proofs.laws.steps_change_what_they_name.Goals as goal

pub returns : goal.returns
returns c = steps

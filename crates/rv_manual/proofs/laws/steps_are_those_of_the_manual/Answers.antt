use Rattle.rv_manual.proofs.ManualEquivalence.{steps}
use Rattle.rv_manual.proofs.laws.steps_are_those_of_the_manual.Goals as goal

pub returns : goal.returns
returns c = steps

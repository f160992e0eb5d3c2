use Rattle.rv_manual.proofs.ManualEquivalence.{states}
use Rattle.rv_manual.proofs.laws.runs_are_those_of_the_manual.Goals as goal

pub returns : goal.returns
returns c = states

use Rattle.rv_manual.proofs.ManualEquivalence.{words}
use Rattle.rv_manual.proofs.laws.words_are_those_of_the_manual.Goals as goal

pub returns : goal.returns
returns c = words

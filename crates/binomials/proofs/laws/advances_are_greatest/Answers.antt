use Rattle.binomials.proofs.LeastAdvances.{advances_greatest}
use Rattle.binomials.proofs.laws.advances_are_greatest.Goals as goal

pub returns : goal.returns
returns c = advances_greatest

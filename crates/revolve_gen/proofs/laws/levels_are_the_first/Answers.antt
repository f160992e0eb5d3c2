use Rattle.revolve_gen.proofs.FirstLevel.{first_level}
use Rattle.revolve_gen.proofs.laws.levels_are_the_first.Goals as goal

pub returns : goal.returns
returns c = first_level

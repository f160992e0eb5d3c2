use Rattle.revolve_gen.proofs.StackPlaces.{levels_free}
use Rattle.revolve_gen.proofs.laws.levels_are_free.Goals as goal

pub returns : goal.returns
returns c = levels_free

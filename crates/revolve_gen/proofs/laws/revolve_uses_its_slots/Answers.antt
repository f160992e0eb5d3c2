use Rattle.revolve_gen.proofs.StackPlaces.{uses_its_slots}
use Rattle.revolve_gen.proofs.laws.revolve_uses_its_slots.Goals as goal

pub returns : goal.returns
returns c = uses_its_slots

use Rattle.revolve_gen.proofs.Costs.{by_places}
use Rattle.revolve_gen.proofs.laws.cost_is_by_places.Goals as goal

pub returns : goal.returns
returns c = by_places

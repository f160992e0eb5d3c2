use Rattle.pebble_bound.proofs.BoundLaws.{none_below}
use Rattle.pebble_bound.proofs.laws.none_is_below_revolve.Goals as goal

pub returns : goal.returns
returns c = none_below

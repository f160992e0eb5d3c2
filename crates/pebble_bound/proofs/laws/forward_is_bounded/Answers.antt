use Rattle.pebble_bound.proofs.BoundLaws.{forward_bounded}
use Rattle.pebble_bound.proofs.laws.forward_is_bounded.Goals as goal

pub returns : goal.returns
returns c = forward_bounded

use Rattle.pebble_bound.proofs.BoundLaws.{none_without}
use Rattle.pebble_bound.proofs.laws.none_without_slots.Goals as goal

pub returns : goal.returns
returns c = none_without

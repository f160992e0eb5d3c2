use Rattle.pebble_bound.proofs.BoundLaws.{taped_once}
use Rattle.pebble_bound.proofs.laws.each_is_taped_once.Goals as goal

pub returns : goal.returns
returns c = taped_once

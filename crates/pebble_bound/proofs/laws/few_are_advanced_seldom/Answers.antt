use Rattle.pebble_bound.proofs.BoundLaws.{few_seldom}
use Rattle.pebble_bound.proofs.laws.few_are_advanced_seldom.Goals as goal

pub returns : goal.returns
returns c = few_seldom

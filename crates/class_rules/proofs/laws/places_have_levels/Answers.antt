use Rattle.class_rules.proofs.MultistageMembership.{has_place_levels}
use Rattle.class_rules.proofs.laws.places_have_levels.Goals as goal

pub returns : goal.returns
returns c = has_place_levels

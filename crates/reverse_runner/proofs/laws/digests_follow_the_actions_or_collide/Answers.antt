use Rattle.reverse_runner.proofs.Collision.{stand_or_collide}
use Rattle.reverse_runner.proofs.laws.digests_follow_the_actions_or_collide.Goals as goal

pub returns : goal.returns
returns c = stand_or_collide

use Rattle.reverse_queries.proofs.Collision.{run_or_collides}
use Rattle.reverse_queries.proofs.laws.lists_hand_out_the_run_or_collide.Goals as goal

pub returns : goal.returns
returns c = run_or_collides

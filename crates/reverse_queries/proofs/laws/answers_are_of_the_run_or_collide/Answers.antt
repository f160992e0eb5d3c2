use Rattle.reverse_queries.proofs.Collision.{state_or_collides, write_or_collides, change_or_collides}
use Rattle.reverse_queries.proofs.laws.answers_are_of_the_run_or_collide.Goals as goal

pub returns-clause-state : goal.returns-clause-state
returns-clause-state c = state_or_collides

pub returns-clause-last_write : goal.returns-clause-last_write
returns-clause-last_write c = write_or_collides

pub returns-clause-last_change : goal.returns-clause-last_change
returns-clause-last_change c = change_or_collides

use Rattle.reverse_console.proofs.Collision.{state_or_collides, answer_or_collides, text_or_collides}
use Rattle.reverse_console.proofs.laws.marks_tell_the_run_or_collide.Goals as goal

pub returns-clause-state : goal.returns-clause-state
returns-clause-state c = state_or_collides

pub returns-clause-answer : goal.returns-clause-answer
returns-clause-answer c = answer_or_collides

pub returns-clause-text : goal.returns-clause-text
returns-clause-text c = text_or_collides

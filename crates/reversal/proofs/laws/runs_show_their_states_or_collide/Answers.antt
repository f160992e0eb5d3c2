use Rattle.reversal.specs.RunTrace.{AllLevels, SparesNext, UnreachedNext}
use Rattle.reversal.proofs.Collision.{shown_or_collides, lines_or_collide}
use Rattle.reversal.proofs.laws.runs_show_their_states_or_collide.Goals as goal

pub returns-clause-shown : goal.returns-clause-shown
returns-clause-shown c run begins = shown_or_collides run begins.start.state begins.start.recorded begins.valid AllLevels

pub returns-clause-shown_at_storage : goal.returns-clause-shown_at_storage
returns-clause-shown_at_storage c run begins performed level = shown_or_collides run begins.start.state begins.start.recorded begins.valid (UnreachedNext level) performed

pub returns-clause-shown_in_memory : goal.returns-clause-shown_in_memory
returns-clause-shown_in_memory c run begins = shown_or_collides run begins.start.state begins.start.recorded begins.valid SparesNext

pub returns-clause-lines : goal.returns-clause-lines
returns-clause-lines c run begins = lines_or_collide run begins.start.state begins.start.recorded begins.valid

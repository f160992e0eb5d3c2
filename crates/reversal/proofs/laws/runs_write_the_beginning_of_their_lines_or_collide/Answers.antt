use Rattle.reversal.specs.RunTrace.{AllLevels, SparesNext, UnreachedNext}
use Rattle.reversal.proofs.LineFronts.{front_or_collides, part_or_collides}
use Rattle.reversal.proofs.laws.runs_write_the_beginning_of_their_lines_or_collide.Goals as goal

pub returns-clause-at_a_write : goal.returns-clause-at_a_write
returns-clause-at_a_write c run begins shown performed old new stops = part_or_collides run begins.start.state begins.start.recorded begins.valid performed shown old new stops

pub returns-clause-at_storage : goal.returns-clause-at_storage
returns-clause-at_storage c run begins shown performed level old new fails = front_or_collides run begins.start.state begins.start.recorded begins.valid (UnreachedNext level) performed shown old new fails.held fails.breaks.added

pub returns-clause-at_damage : goal.returns-clause-at_damage
returns-clause-at_damage c run begins shown performed level put got old new damaged = front_or_collides run begins.start.state begins.start.recorded begins.valid AllLevels performed shown old new damaged.held damaged.breaks.added

pub returns-clause-in_memory : goal.returns-clause-in_memory
returns-clause-in_memory c run begins shown performed old new halts = front_or_collides run begins.start.state begins.start.recorded begins.valid SparesNext performed shown old new halts.held halts.breaks.added

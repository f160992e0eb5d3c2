use Rattle.reversal.specs.CommandConsole.{AnyMark}
use Rattle.reversal.proofs.MarkCollision.{script_or_collides}
use Rattle.reversal.proofs.laws.scripts_are_answered_in_the_run_or_collide.Goals as goal

pub returns : goal.returns
returns c first items p orders deeds old new begins = script_or_collides first items p orders deeds AnyMark old new begins.state begins.recorded

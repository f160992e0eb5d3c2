use Rattle.reverse_runner.proofs.ExactContents.{holds_just}
use Rattle.reverse_runner.proofs.laws.levels_hold_just_their_images.Goals as goal

pub returns : goal.returns
returns c = holds_just

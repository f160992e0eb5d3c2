use Rattle.state_image.proofs.ImageInjectivity.{run_image_tells}
use Rattle.state_image.proofs.laws.images_tell_states_of_a_run.Goals as goal

pub returns : goal.returns
returns c = run_image_tells

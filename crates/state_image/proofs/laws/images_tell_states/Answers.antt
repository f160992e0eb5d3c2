use Rattle.state_image.proofs.ImageInjectivity.{image_tells}
use Rattle.state_image.proofs.laws.images_tell_states.Goals as goal

pub returns : goal.returns
returns c = image_tells

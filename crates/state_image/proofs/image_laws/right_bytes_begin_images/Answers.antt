use Rattle.state_image.proofs.ImagePrefix.{begins}
use Rattle.state_image.proofs.image_laws.right_bytes_begin_images.Goals as goal

pub returns : goal.returns
returns c = begins

use Rattle.state_image.specs.Image.{image}
use Rattle.state_image.proofs.RightFields.{is_right, none_wrong}
use Rattle.state_image.proofs.Images.{image_right}
use Rattle.state_image.proofs.ImageRoundTrip.{bytes_of}
use Rattle.state_image.proofs.DecodedState.{state, machine, spelled}
use Rattle.state_image.proofs.image_laws.images_are_bytes_with_nothing_wrong.Goals as goal

pub returns-clause-right : goal.returns-clause-right
returns-clause-right c = λ s is. none_wrong (image s) (image_right s is)

pub returns-clause-only : goal.returns-clause-only
returns-clause-only c = λ bytes small none.
    let right = is_right bytes none in
    let are = bytes_of bytes small in
    (state bytes are right, machine bytes are right, spelled bytes are right)

use Rattle.image_laws.proofs.EmptyImages.{empty_image}
use Rattle.image_laws.proofs.empty_image_is_empty.Goals as goal

pub returns : goal.returns
returns _ = empty_image

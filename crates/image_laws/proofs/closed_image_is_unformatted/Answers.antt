use Rattle.image_laws.proofs.EmptyImages.{closed_image}
use Rattle.image_laws.proofs.closed_image_is_unformatted.Goals as goal

pub returns : goal.returns
returns _ = closed_image

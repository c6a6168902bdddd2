use Rattle.image_layout.proofs.Between.{between_stores}
use Rattle.image_layout.proofs.parts_are_between.Goals as goal

pub returns : goal.returns
returns c = between_stores

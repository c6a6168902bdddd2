use Rattle.image_layout.proofs.Between.{now_stores}
use Rattle.image_layout.proofs.parts_are_now.Goals as goal

pub returns : goal.returns
returns c = now_stores

use Rattle.image_layout.proofs.Spoken.{state_speaks}
use Rattle.image_layout.proofs.state_is_in_layout.Goals as goal

pub returns : goal.returns
returns c = state_speaks

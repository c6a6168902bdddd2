use Rattle.image_layout.proofs.Parts.{state_is_of_parts}
use Rattle.image_layout.proofs.state_is_of_parts.Goals as goal

pub returns : goal.returns
returns c = state_is_of_parts

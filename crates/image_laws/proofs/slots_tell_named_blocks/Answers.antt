use Rattle.image_laws.proofs.UnnamedBlocks.{names_same}
use Rattle.image_laws.proofs.slots_tell_named_blocks.Goals as goal

pub returns : goal.returns
returns _ = names_same

use Rattle.image_laws.proofs.UnnamedBlocks.{unnamed_blocks}
use Rattle.image_laws.proofs.unnamed_blocks_dont_matter.Goals as goal

pub returns : goal.returns
returns _ = unnamed_blocks

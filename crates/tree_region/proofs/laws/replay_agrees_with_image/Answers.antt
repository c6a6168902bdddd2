use Rattle.tree_region.proofs.Images.{replay-agrees}
use Rattle.tree_region.proofs.laws.replay_agrees_with_image.Goals as goal

pub returns : goal.returns
returns _ = λ version entries tree records is few_files few_directories. replay-agrees version records entries tree is few_files few_directories

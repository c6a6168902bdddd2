use Rattle.file_tree.proofs.BodyImages.{blocks-left}
use Rattle.file_tree.proofs.laws.only_blocks_are_left.Goals as goal

pub returns : goal.returns
returns _ = λ version row body blocks v files read none fields. blocks-left version row body blocks v files read none fields

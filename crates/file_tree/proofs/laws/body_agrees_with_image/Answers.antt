use Rattle.file_tree.proofs.BodyImages.{body-agrees}
use Rattle.file_tree.proofs.laws.body_agrees_with_image.Goals as goal

pub returns : goal.returns
returns _ = λ version row body blocks entries long is. body-agrees version row body blocks entries long is

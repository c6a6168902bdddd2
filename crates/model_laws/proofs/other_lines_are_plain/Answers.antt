use Rattle.model_laws.proofs.ReplyLines.{others-plain}
use Rattle.model_laws.proofs.other_lines_are_plain.Goals as goal

pub returns : goal.returns
returns _ = others-plain

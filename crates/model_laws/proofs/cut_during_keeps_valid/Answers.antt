use Rattle.model_laws.proofs.Steps.{cut-valid}
use Rattle.model_laws.proofs.cut_during_keeps_valid.Goals as goal

pub returns : goal.returns
returns c = cut-valid c.cut_keeps_valid.ensures c.step_keeps_valid.ensures

use Rattle.model_laws.proofs.Steps.{step-valid}
use Rattle.model_laws.proofs.step_keeps_valid.Goals as goal

pub returns : goal.returns
returns c = step-valid c.logbook_call_keeps_valid.ensures c.tick_keeps_valid.ensures

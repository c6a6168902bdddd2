use Rattle.model_laws.proofs.DirectoryCalls.{directory_call-valid}
use Rattle.model_laws.proofs.directory_call_keeps_valid.Goals as goal

pub returns : goal.returns
returns _ = directory_call-valid

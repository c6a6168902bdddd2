use Rattle.model_laws.proofs.FileCalls.{file_call-valid}
use Rattle.model_laws.proofs.file_call_keeps_valid.Goals as goal

pub returns : goal.returns
returns _ = file_call-valid

use Rattle.script_model.proofs.Accepted.{accepted_ready}
use Rattle.script_model.proofs.an_accepted_table_is_ready.Goals as goal

pub returns : goal.returns
returns c = accepted_ready

use Rattle.table_model.proofs.Ready.{accepted_ready}
use Rattle.table_model.proofs.accepted_are_ready.Goals as goal

pub returns : goal.returns
returns c = accepted_ready

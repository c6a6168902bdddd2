use Rattle.table_model.proofs.AcceptedTables.{table_accepted}
use Rattle.table_model.proofs.tables_are_accepted.Goals as goal

pub returns : goal.returns
returns c = table_accepted

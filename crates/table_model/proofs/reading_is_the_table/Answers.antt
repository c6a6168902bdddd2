use Rattle.table_model.proofs.Tables.{reading_is_table}
use Rattle.table_model.proofs.reading_is_the_table.Goals as goal

pub returns : goal.returns
returns c = reading_is_table

use Rattle.table_model.proofs.Canonical.{bytes_tell}
use Rattle.table_model.proofs.bytes_tell_tables.Goals as goal

pub returns : goal.returns
returns c = bytes_tell

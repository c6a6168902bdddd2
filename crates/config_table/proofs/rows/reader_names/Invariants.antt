use Rattle.std.proofs.Common.{◌≡◌, take}
use Rattle.config_table.proofs.rows.reader_names.Given as goal

abbrev pub invariant-loop-name : goal.invariant-loop-name
invariant-loop-name l = l.readers ≡ take l.name-index l.names

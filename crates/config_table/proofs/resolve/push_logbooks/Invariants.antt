use Rattle.std.proofs.Common.{◌≡◌, drop}
use Rattle.std.specs.Option.{option_map}
use Rattle.table_model.specs.Table.{all_of, logbook_row}
use Rattle.config_table.specs.Pushes.{with_logbooks}
use Rattle.config_table.proofs.resolve.push_logbooks.Given as goal

abbrev pub invariant-loop-logbook : goal.invariant-loop-logbook
invariant-loop-logbook l = option_map (with_logbooks l.table) (all_of (logbook_row l.partitions) (drop l.logbook-index l.rows)) ≡ option_map (with_logbooks l.initial.table) (all_of (logbook_row l.partitions) l.rows)

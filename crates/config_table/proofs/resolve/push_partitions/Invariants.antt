use Rattle.std.proofs.Common.{◌≡◌, take}
use Rattle.config_table.specs.Pushes.{with_partitions}
use Rattle.config_table.proofs.resolve.push_partitions.Given as goal

abbrev pub invariant-loop-row : goal.invariant-loop-row
invariant-loop-row l = l.table ≡ with_partitions l.initial.table (take l.row-index l.rows)

use Rattle.std.proofs.Common.{◌≡◌, ◌++◌, drop, length}
use Rattle.std.specs.Option.{option_map}
use Rattle.table_model.specs.Table.{all_of, partition_of}
use Rattle.config_table.proofs.resolve.readers_of.Given as goal

abbrev pub invariant-loop-name : goal.invariant-loop-name
invariant-loop-name l =
    (option_map (λ ys. l.readers ++ ys) (all_of (partition_of l.partitions) (drop l.name-index l.names)) ≡ all_of (partition_of l.partitions) l.names) × (length l.readers ≡ l.name-index)

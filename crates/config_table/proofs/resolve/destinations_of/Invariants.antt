use Rattle.std.proofs.Common.{◌≡◌, ◌++◌, drop, length}
use Rattle.std.specs.Option.{option_map}
use Rattle.table_model.specs.Table.{all_of, port_row}
use Rattle.config_table.proofs.resolve.destinations_of.Given as goal

abbrev pub invariant-loop-port : goal.invariant-loop-port
invariant-loop-port l =
    (option_map (λ ys. l.destinations ++ ys) (all_of (port_row l.partitions) (drop l.port-index l.ports)) ≡ all_of (port_row l.partitions) l.ports) × (length l.destinations ≡ l.port-index)

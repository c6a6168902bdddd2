use Rattle.std.proofs.Common.{◌≡◌, take}
use Rattle.config_table.proofs.rows.port_names.Given as goal

abbrev pub invariant-loop-port : goal.invariant-loop-port
invariant-loop-port l = l.names ≡ take l.port-index l.ports

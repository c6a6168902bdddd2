use Rattle.std.proofs.Common.{◌≡◌, ◌++◌, take}
use Rattle.config_table.proofs.repeats.push_ports.Given as goal

abbrev pub invariant-loop-port : goal.invariant-loop-port
invariant-loop-port l = l.all.items ≡ l.initial.all.items ++ take l.port-index l.ports

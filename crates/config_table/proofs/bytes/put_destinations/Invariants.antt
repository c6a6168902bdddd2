use Rattle.std.proofs.Common.{◌≡◌, ◌++◌, drop, flat_map}
use Rattle.apex_model.specs.TableBytes.{port_bytes}
use Rattle.config_table.proofs.bytes.put_destinations.Given as goal

abbrev pub invariant-loop-k : goal.invariant-loop-k
invariant-loop-k l = l.bytes ++ flat_map port_bytes (drop l.k l.ports) ≡ l.initial.bytes ++ flat_map port_bytes l.ports

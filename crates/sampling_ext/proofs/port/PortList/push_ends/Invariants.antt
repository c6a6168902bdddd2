use Rattle.std.proofs.Common.{◌≡◌, ◌++◌, drop}
use Rattle.apex_model.specs.Tables.{destinations_of_channel, ports_of_channel}
use Rattle.sampling_ext.proofs.port.PortList.push_ends.Given as goal

-- with the destinations that are left, all are there
abbrev pub invariant-loop-d : goal.invariant-loop-d
invariant-loop-d l = l.self ++ destinations_of_channel l.channel l.d (drop l.d l.row.destinations) ≡ l.fn.self ++ ports_of_channel l.channel l.row

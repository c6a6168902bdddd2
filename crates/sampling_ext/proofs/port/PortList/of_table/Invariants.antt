use Rattle.std.proofs.Common.{◌≡◌, ◌++◌, drop}
use Rattle.apex_model.specs.Tables.{ports_from}
use Rattle.sampling_ext.proofs.port.PortList.of_table.Given as goal

-- with the channels that are left, all are there
abbrev pub invariant-loop-channel : goal.invariant-loop-channel
invariant-loop-channel l = l.list ++ ports_from l.channel (drop l.channel l.table.channels) ≡ ports_from 0 l.table.channels

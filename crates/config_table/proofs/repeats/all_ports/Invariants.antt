use Rattle.std.proofs.Common.{◌≡◌, ◌++◌, drop, flat_map}
use Rattle.table_model.specs.Table.{ends_of}
use Rattle.config_table.proofs.repeats.all_ports.Given as goal

abbrev pub invariant-loop-channel : goal.invariant-loop-channel
invariant-loop-channel l = l.all.items ++ flat_map ends_of (drop l.channel-index l.channels) ≡ flat_map ends_of l.channels

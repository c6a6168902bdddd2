use Rattle.std.proofs.Common.{◌≡◌, drop}
use Rattle.std.specs.Option.{option_map}
use Rattle.table_model.specs.Table.{all_of, channel_row}
use Rattle.config_table.specs.Pushes.{with_channels}
use Rattle.config_table.proofs.resolve.push_channels.Given as goal

abbrev pub invariant-loop-channel : goal.invariant-loop-channel
invariant-loop-channel l = option_map (with_channels l.table) (all_of (channel_row l.partitions) (drop l.channel-index l.rows)) ≡ option_map (with_channels l.initial.table) (all_of (channel_row l.partitions) l.rows)

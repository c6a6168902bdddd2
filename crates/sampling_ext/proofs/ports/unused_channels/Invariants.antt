use Rattle.std.proofs.Common.{◌≡◌, take, map}
use Rattle.apex_model.specs.Durable.{unused_channel}
use Rattle.sampling_ext.proofs.ports.unused_channels.Given as goal

abbrev pub invariant-loop-row : goal.invariant-loop-row
invariant-loop-row l = l.channels.items ≡ map unused_channel (take l.row-index l.row-items)

use Rattle.std.proofs.Common.{◌≡◌, replicate}
use Rattle.apex_model.specs.World.{started}
use Rattle.module_session.proofs.partitions.Partitions.started.Given as goal

abbrev pub invariant-loop : goal.invariant-loop
invariant-loop l = l.states.items ≡ replicate l.counter started

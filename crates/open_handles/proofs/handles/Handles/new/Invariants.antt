use Rattle.std.proofs.Common.{◌≡◌, replicate}
use Rattle.open_handles.specs.NodeHandles.{none_open}
use Rattle.open_handles.proofs.handles.Handles.new.Given as goal

abbrev pub invariant-loop : goal.invariant-loop
invariant-loop l = l.all.items ≡ replicate l.counter none_open

use Rattle.std.proofs.Common.{◌≡◌, replicate, None}
use Rattle.open_handles.proofs.slots.Slots.new.Given as goal

abbrev pub invariant-loop : goal.invariant-loop
invariant-loop g l = l.places.items ≡ replicate l.counter None

use Rattle.std.proofs.Common.{None}
use Rattle.open_handles.proofs.Mapped.{filled_more}
use Rattle.open_handles.proofs.slots.Slots.close_all.Goals as goal

pub loop-place-preserved : goal.loop-place-preserved
loop-place-preserved g c =
    filled_more None c.loop-place.place-items c.deref_mut-place-items.result.now c.loop-place.place-index c.loop-place.invariant c.loop-place-test.true

use Rattle.std.specs.Prelude.{option_map}
use Rattle.open_handles.proofs.Mapped.{mapped_more}
use Rattle.open_handles.specs.Nodes.{without_file}
use Rattle.open_handles.proofs.slots.Slots+FileHandle+N.lose.Goals as goal

pub loop-place-preserved : goal.loop-place-preserved
loop-place-preserved g c =
    mapped_more (option_map (without_file c.args.tree c.args.file)) c.loop-place.place-items c.deref_mut-place-items.result.now c.loop-place.place-index
    _ c.lose_file.new.place c.loop-place.invariant c.loop-place-test.true c.lose_file.ensures

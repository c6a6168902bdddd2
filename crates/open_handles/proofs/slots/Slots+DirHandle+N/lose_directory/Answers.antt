use Rattle.std.specs.Prelude.{option_map}
use Rattle.open_handles.proofs.Mapped.{mapped_more}
use Rattle.open_handles.specs.Nodes.{without_directory}
use Rattle.open_handles.proofs.slots.Slots+DirHandle+N.lose_directory.Goals as goal

pub loop-place-preserved : goal.loop-place-preserved
loop-place-preserved g c =
    mapped_more (option_map (without_directory c.args.tree c.args.directory)) c.loop-place.place-items c.deref_mut-place-items.result.now c.loop-place.place-index
    _ c.lose_directory.new.place c.loop-place.invariant c.loop-place-test.true c.lose_directory.ensures

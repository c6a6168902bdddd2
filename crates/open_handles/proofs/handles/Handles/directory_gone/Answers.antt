use Rattle.std.proofs.Common.{get_or}
use Rattle.open_handles.proofs.Mapped.{mapped_more}
use Rattle.open_handles.specs.NodeHandles.{with_directory_gone}
use Rattle.open_handles.proofs.handles.Handles.directory_gone.Goals as goal

pub loop-handles-preserved : goal.loop-handles-preserved
loop-handles-preserved c =
    mapped_more (with_directory_gone c.args.tree c.args.directory) c.loop-handles.handles-items c.deref_mut-handles-items.result.now c.loop-handles.handles-index
    c.handles-item.result _ c.loop-handles.invariant c.loop-handles-test.true
    (λ i. record { files = (get_or c.loop-handles.handles-items c.loop-handles.handles-index c.handles-item.result).files; directories = c.lose_directory.ensures i })

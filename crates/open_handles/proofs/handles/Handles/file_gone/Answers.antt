use Rattle.std.proofs.Common.{get_or}
use Rattle.open_handles.proofs.Mapped.{mapped_more}
use Rattle.open_handles.specs.NodeHandles.{with_file_gone}
use Rattle.open_handles.proofs.handles.Handles.file_gone.Goals as goal

pub loop-handles-preserved : goal.loop-handles-preserved
loop-handles-preserved c =
    mapped_more (with_file_gone c.args.tree c.args.file) c.loop-handles.handles-items c.deref_mut-handles-items.result.now c.loop-handles.handles-index
    c.handles-item.result _ c.loop-handles.invariant c.loop-handles-test.true
    (λ i. record { files = c.lose.ensures i; directories = (get_or c.loop-handles.handles-items c.loop-handles.handles-index c.handles-item.result).directories })

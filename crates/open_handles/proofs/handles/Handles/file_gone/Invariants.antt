use Rattle.std.proofs.Common.{◌≡◌, ◌++◌, map, take, drop}
use Rattle.open_handles.specs.NodeHandles.{with_file_gone}
use Rattle.open_handles.proofs.handles.Handles.file_gone.Given as goal

-- the partitions so far are changed, and the others are as they were
abbrev pub invariant-loop-handles : goal.invariant-loop-handles
invariant-loop-handles l = l.handles-items ≡ map (with_file_gone l.tree l.file) (take l.handles-index l.initial.handles-items) ++ drop l.handles-index l.initial.handles-items

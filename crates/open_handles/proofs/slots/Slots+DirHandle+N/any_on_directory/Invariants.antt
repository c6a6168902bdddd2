use Rattle.std.proofs.Common.{◌≡◌, drop}
use Rattle.apex_model.specs.Handles.{any_open}
use Rattle.open_handles.specs.Nodes.{holds_directory}
use Rattle.open_handles.proofs.slots.Slots+DirHandle+N.any_on_directory.Given as goal

-- the answer is that of the rest
abbrev pub invariant-loop-place : goal.invariant-loop-place
invariant-loop-place g l = any_open (holds_directory l.tree l.directory) l.place-items ≡ any_open (holds_directory l.tree l.directory) (drop l.place-index l.place-items)

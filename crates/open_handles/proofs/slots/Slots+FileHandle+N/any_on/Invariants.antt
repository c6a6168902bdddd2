use Rattle.std.proofs.Common.{◌≡◌, drop}
use Rattle.apex_model.specs.Handles.{any_open}
use Rattle.open_handles.specs.Nodes.{holds_file}
use Rattle.open_handles.proofs.slots.Slots+FileHandle+N.any_on.Given as goal

-- the answer is that of the rest
abbrev pub invariant-loop-place : goal.invariant-loop-place
invariant-loop-place g l = any_open (holds_file l.tree l.file) l.place-items ≡ any_open (holds_file l.tree l.file) (drop l.place-index l.place-items)

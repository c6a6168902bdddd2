use Rattle.std.proofs.Common.{◌≡◌, ◌++◌, map, take, drop}
use Rattle.std.specs.Prelude.{option_map}
use Rattle.open_handles.specs.Nodes.{without_directory}
use Rattle.open_handles.proofs.slots.Slots+DirHandle+N.lose_directory.Given as goal

-- the places so far are changed, and the others are as they were
abbrev pub invariant-loop-place : goal.invariant-loop-place
invariant-loop-place g l = l.place-items ≡ map (option_map (without_directory l.tree l.directory)) (take l.place-index l.initial.place-items) ++ drop l.place-index l.initial.place-items

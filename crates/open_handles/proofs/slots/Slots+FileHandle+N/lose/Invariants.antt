use Rattle.std.proofs.Common.{◌≡◌, ◌++◌, map, take, drop}
use Rattle.std.specs.Prelude.{option_map}
use Rattle.open_handles.specs.Nodes.{without_file}
use Rattle.open_handles.proofs.slots.Slots+FileHandle+N.lose.Given as goal

-- the places so far are changed, and the others are as they were
abbrev pub invariant-loop-place : goal.invariant-loop-place
invariant-loop-place g l = l.place-items ≡ map (option_map (without_file l.tree l.file)) (take l.place-index l.initial.place-items) ++ drop l.place-index l.initial.place-items

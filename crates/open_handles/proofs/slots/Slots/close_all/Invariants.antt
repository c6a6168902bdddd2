use Rattle.std.proofs.Common.{◌≡◌, ◌++◌, replicate, None, drop}
use Rattle.open_handles.proofs.slots.Slots.close_all.Given as goal

-- the places so far are free, and the others are as they were
abbrev pub invariant-loop-place : goal.invariant-loop-place
invariant-loop-place g l = l.place-items ≡ replicate l.place-index None ++ drop l.place-index l.initial.place-items

use Rattle.std.proofs.Common.{◌≡◌, ◌+◌, drop}
use Rattle.apex_model.specs.Handles.{least_free, free_from}
use Rattle.open_handles.proofs.slots.least_free_number.Given as goal

-- the least free number is that of the rest
abbrev pub invariant-loop-k : goal.invariant-loop-k
invariant-loop-k g l = least_free l.places ≡ free_from (l.k + 1) (drop l.k l.places)

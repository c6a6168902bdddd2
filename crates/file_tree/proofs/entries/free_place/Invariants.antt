use Rattle.std.proofs.Common.{◌≡◌, drop}
use Rattle.apex_model.specs.Handles.{free_from}
use Rattle.file_tree.proofs.entries.free_place.Given as goal

-- the least free place is that of the rest
abbrev pub invariant-loop-k : goal.invariant-loop-k
invariant-loop-k l = free_from 0 l.entries ≡ free_from l.k (drop l.k l.entries)

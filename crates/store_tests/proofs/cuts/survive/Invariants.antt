use Rattle.std.proofs.Common.{◌≤◌}
use Rattle.rig_core.specs.MemRig.{mem_state}
use Rattle.tree_store.specs.Stored.{IsStored}
use Rattle.store_tests.proofs.cuts.survive.Given as goal

-- the tree stays in step, and the device as large
abbrev pub invariant-loop-change : goal.invariant-loop-change
invariant-loop-change l = IsStored (Unit {0}) (mem_state l.rig) l.store × (83968 ≤ (mem_state l.rig).size)

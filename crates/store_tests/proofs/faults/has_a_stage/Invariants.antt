use Rattle.tree_store.specs.Stored.{IsStored}
use Rattle.store_tests.proofs.faults.has_a_stage.Given as goal

-- the tree stays in step
abbrev pub invariant-loop-files : goal.invariant-loop-files
invariant-loop-files g l = IsStored g.R.Rig.tells_view (g.R.Rig.state l.rig) l.store

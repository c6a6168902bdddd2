use Rattle.tree_store.specs.Stored.{IsStored}
use Rattle.store_tests.proofs.limits.write_on.Given as goal

-- the tree stays in step
abbrev pub invariant-loop-k : goal.invariant-loop-k
invariant-loop-k g l = IsStored g.R.Rig.tells_view (g.R.Rig.state l.rig) l.store

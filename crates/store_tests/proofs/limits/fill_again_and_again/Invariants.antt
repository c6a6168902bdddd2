use Rattle.tree_store.specs.Stored.{IsStored}
use Rattle.store_tests.proofs.limits.fill_again_and_again.Given as goal

-- the tree stays in step
abbrev pub invariant-loop-byte : goal.invariant-loop-byte
invariant-loop-byte g l = IsStored g.R.Rig.tells_view (g.R.Rig.state l.rig) l.store

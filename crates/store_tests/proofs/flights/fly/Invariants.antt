use Rattle.std.proofs.Common.{◌≡◌}
use Rattle.tree_store.specs.Stored.{IsStored}
use Rattle.store_tests.proofs.flights.fly.Given as goal

-- the tree stays in step, and the device as large
abbrev pub invariant-loop-change : goal.invariant-loop-change
invariant-loop-change g l = IsStored g.R.Rig.tells_view (g.R.Rig.state l.rig) l.store × ((g.R.Rig.state l.rig).size ≡ (g.R.Rig.state l.initial.rig).size)

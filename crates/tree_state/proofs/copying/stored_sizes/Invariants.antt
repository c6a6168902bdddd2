use Rattle.tree_state.specs.Mounted.{AreStoredSizes}
use Rattle.tree_state.proofs.copying.stored_sizes.Given as goal

abbrev pub invariant-loop-place : goal.invariant-loop-place
invariant-loop-place l = AreStoredSizes l.tree l.place l.sizes.items

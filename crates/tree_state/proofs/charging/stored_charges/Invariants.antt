use Rattle.tree_state.specs.Mounted.{AreStoredCharges}
use Rattle.tree_state.proofs.charging.stored_charges.Given as goal

abbrev pub invariant-loop-place : goal.invariant-loop-place
invariant-loop-place l = AreStoredCharges l.row l.kept.tree l.place l.charges

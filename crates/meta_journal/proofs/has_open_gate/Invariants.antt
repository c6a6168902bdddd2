use Rattle.std.proofs.Common.{ℕ, ◌<◌, ◌≤◌}
use Rattle.rig_core.specs.Outside.{OnlyReads}
use Rattle.meta_journal.specs.Leading.{gate_of, IsOpen}
use Rattle.meta_journal.proofs.has_open_gate.Given as goal

abbrev pub invariant-loop-place : goal.invariant-loop-place
invariant-loop-place g l = record {
  reads : OnlyReads g.R.Rig.tells_view (g.R.Rig.state l.initial.rig) (g.R.Rig.state l.rig);
  none : g.R.Rig.tells_view → (r : ℕ) → l.from ≤ r → r < l.place → IsOpen (gate_of l.first r) (g.R.Rig.state l.initial.rig).view → ⊥;
}

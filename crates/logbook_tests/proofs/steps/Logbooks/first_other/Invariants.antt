use Rattle.logbook_tests.specs.InStep.{IsInStep}
use Rattle.logbook_tests.proofs.steps.Logbooks.first_other.Given as goal

abbrev pub invariant-loop-k : goal.invariant-loop-k
invariant-loop-k g l = IsInStep g.R.Rig.tells_view (g.R.Rig.state l.rig) l.self.table l.self.logs l.self.made

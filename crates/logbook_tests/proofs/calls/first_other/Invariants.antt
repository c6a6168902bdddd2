use Rattle.rig_core.specs.MemRig.{mem_state}
use Rattle.logbook_tests.specs.InStep.{IsInStep}
use Rattle.logbook_tests.proofs.calls.first_other.Given as goal

abbrev pub invariant-loop-stage : goal.invariant-loop-stage
invariant-loop-stage l = IsInStep (Unit {0}) (mem_state l.rig) l.logbooks.table l.logbooks.logs l.logbooks.made

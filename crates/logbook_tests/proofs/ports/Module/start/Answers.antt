use Rattle.logbook_tests.proofs.ports.Module.start.Goals as goal

pub invariant_of-result : goal.invariant_of-result
invariant_of-result c = (c.in_ok-table.ensures, c.in_ok-ports.ensures.valid 0)

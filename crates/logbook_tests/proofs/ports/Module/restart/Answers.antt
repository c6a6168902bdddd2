use Rattle.logbook_tests.proofs.ports.Module.restart.Goals as goal

pub invariant_of-self : goal.invariant_of-self
invariant_of-self c = (c.self.invariant.0, c.restart.ensures.valid c.self.inside.table c.self.inside.now c.self.invariant.1)

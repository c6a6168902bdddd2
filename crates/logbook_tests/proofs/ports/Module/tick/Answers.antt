use Rattle.std.proofs.Common.{◌≤◌, arith}
use Rattle.std.proofs.lemmas.Grind.{common_steps}
use Rattle.sampling_ext.proofs.Kept.{later-serving}
use Rattle.logbook_tests.proofs.ports.Module.tick.Goals as goal

pub invariant_of-self : goal.invariant_of-self
invariant_of-self c =
    let later : c.self.inside.now ≤ c.saturating_add-self-inside.result = grind (arith, common_steps) in
    (c.self.invariant.0, later-serving c.self.inside.table c.self.inside.now c.saturating_add-self-inside.result c.self.inside.ports later c.self.invariant.1)

use Rattle.sampling_ext.proofs.Kept.{forgotten-stands, forgotten-serving}
use Rattle.sampling_ext.proofs.ports.Ports.restart.Goals as goal

pub returns-clause-state : goal.returns-clause-state
returns-clause-state c =
    forgotten-stands c.args.p.0 c.args.self.now c.forget_created.new.self c.forget_created.ensures.ports c.forget_created.ensures.channels c.forget_created.ensures.created

pub returns-clause-valid : goal.returns-clause-valid
returns-clause-valid c = λ table now.
    forgotten-serving table now c.args.p.0 c.args.self.now c.forget_created.new.self
    (forgotten-stands c.args.p.0 c.args.self.now c.forget_created.new.self c.forget_created.ensures.ports c.forget_created.ensures.channels c.forget_created.ensures.created table)

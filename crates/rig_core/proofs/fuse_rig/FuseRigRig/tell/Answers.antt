use Rattle.rig_core.specs.MemRig.{mem_state}
use Rattle.rig_core.proofs.Untold.{speaks_untold}
use Rattle.rig_core.proofs.fuse_rig.FuseRigRig.tell.Goals as goal

pub returns-then-self-clause-cuts : goal.returns-then-self-clause-cuts
returns-then-self-clause-cuts c = speaks_untold c.args._line.now (mem_state c.args.self.now.disk) (mem_state c.tell.new.self) c.tell.ensures.cuts

pub returns-clause-cuts : goal.returns-clause-cuts
returns-clause-cuts c = speaks_untold c.args._line.now (mem_state c.args.self.now.disk) (mem_state c.tell.new.self) c.tell.ensures.cuts

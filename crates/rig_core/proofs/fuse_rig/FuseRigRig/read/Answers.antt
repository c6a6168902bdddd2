use Rattle.std.proofs.Common.{ℕ, List, subst}
use Rattle.rig_core.specs.FuseRig.{fuse_state, fuse_sound}
use Rattle.rig_core.specs.Outside.{Now}
use Rattle.rig_core.proofs.fuse_rig.FuseRigRig.read.Goals as goal

pub returns-then-self-clause-kept : goal.returns-then-self-clause-kept
returns-then-self-clause-kept c image told now = subst (λ (t : List ℕ). Now (fuse_state c.args.self.now) image t) ((fuse_sound c.args.self.now).told_now image told now) now

pub returns-clause-kept : goal.returns-clause-kept
returns-clause-kept c image told now = subst (λ (t : List ℕ). Now (fuse_state c.args.self.now) image t) ((fuse_sound c.args.self.now).told_now image told now) now

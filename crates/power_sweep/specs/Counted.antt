-- How the calls and the faults of a disk under a fuse go together.
use Rattle.std.specs.Prelude.{◌≡◌, ℕ, ◌+◌, ◌<◌, ◌≤◌, min, false, true}
use Rattle.rig_core.specs.Causes.{last_count}
use Rattle.rig_core.specs.FuseRig.{fuse_state, is_fuse_starved, is_spent, limit_of, passed_of}
use Rattle.rig_core.specs.declared.fuse_rig.FuseRig.{FuseRig}

-- Each write and sync was let pass, or failed. A call fails only where the fuse has let pass all that
-- it may, and a write or a sync also where a record could not grow.
pub record AreCounted (rig : FuseRig) (read_faults write_faults : ℕ) : Type 0 where
  pub calls : min ((fuse_state rig).writes + (fuse_state rig).syncs) last_count
      ≤ passed_of rig + write_faults
  pub used_up : is_spent rig ≡ true → passed_of rig ≡ limit_of rig
  pub written : passed_of rig < limit_of rig → is_fuse_starved rig ≡ false → write_faults ≡ 0
  pub read : passed_of rig < limit_of rig → read_faults ≡ 0

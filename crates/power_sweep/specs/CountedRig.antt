-- A disk under a fuse whose faults are counted, as the outside.
use Rattle.rig_core.specs.FuseRig.{fuse_state, fuse_sound}
use Rattle.rig_core.specs.Outside.{Outside, Sound}
use Rattle.rig_core.specs.declared.fuse_rig.FuseRig.{FuseRig}
use Rattle.power_sweep.specs.declared.counted.CountedRig.{CountedRig}

-- the disk under its fuse
abbrev pub disk_of : CountedRig → FuseRig
disk_of rig = rig.disk

-- its disk, with the rig's own counts of faults
abbrev pub counted_state : CountedRig → Outside
counted_state rig = record (fuse_state rig.disk) {
  read_faults = rig.read_faults;
  write_faults = rig.write_faults;
}

-- what holds of every such rig
pub counted_sound : (rig : CountedRig) → Sound (Unit {0}) (Unit {0}) (counted_state rig)
counted_sound rig = record {
  size_fits = (fuse_sound rig.disk).size_fits;
  view_fills = (fuse_sound rig.disk).view_fills;
  counted = (fuse_sound rig.disk).counted;
  shown = (fuse_sound rig.disk).shown;
  image_fills = (fuse_sound rig.disk).image_fills;
  from_later = (fuse_sound rig.disk).from_later;
  told_now = (fuse_sound rig.disk).told_now;
  present = (fuse_sound rig.disk).present;
}

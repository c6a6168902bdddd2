-- A file and standard output as the outside: it tells nothing, and allows no image, since it keeps none.
use Rattle.std.specs.Prelude.{◌≡◌, ℕ, []}
use Rattle.std.proofs.Common.{lit≤}
use Rattle.rig_core.specs.Outside.{Outside, Sound}
use Rattle.rig_core.specs.Leaves.{IsAllSettled}
use Rattle.system_adapters.specs.declared.disk_file.DiskFile.{DiskFile}
use Rattle.system_adapters.specs.declared.file_rig.FileRig.{FileRig}

-- the bytes of the disk: 131,072 blocks of 512
abbrev pub disk_size : ℕ
disk_size = 67108864

-- the file of the disk
abbrev pub disk_of : {R F W : Type 0} → FileRig R F W → DiskFile R F
disk_of r = r.disk

-- the output that lines are told on
abbrev pub out_of : {R F W : Type 0} → FileRig R F W → W
out_of r = r.out

-- The rig as the outside. What reads give and the text told are not known, so nothing stands for them.
abbrev pub file_state : {R F W : Type 0} → FileRig R F W → Outside
file_state r = record {
  size = disk_size;
  view = [];
  told = [];
  writes = r.writes;
  syncs = r.syncs;
  tells = r.tells;
  clock = r.clock;
  read_faults = r.read_faults;
  write_faults = r.write_faults;
  tell_faults = r.tell_faults;
  may_leave = λ t image told. ⊥;
}

-- what holds of every such rig
pub file_sound : {R F W : Type 0} → (r : FileRig R F W) → Sound ⊥ ⊥ (file_state r)
file_sound r = record {
  size_fits = lit≤ tt;
  view_fills = λ none. absurd none;
  counted = r.counted;
  shown = λ t image told none. absurd none;
  image_fills = λ t image told none. absurd none;
  from_later = λ t u image told le none. none;
  told_now = λ image told none. absurd none;
  present = λ none. absurd none;
}

-- nothing called and nothing failed so far, and nothing pending
pub record IsUnused (o : Outside) : Type 0 where
  pub size : o.size ≡ disk_size
  pub writes : o.writes ≡ 0
  pub syncs : o.syncs ≡ 0
  pub tells : o.tells ≡ 0
  pub clock : o.clock ≡ 0
  pub read_faults : o.read_faults ≡ 0
  pub write_faults : o.write_faults ≡ 0
  pub tell_faults : o.tell_faults ≡ 0
  pub settled : IsAllSettled o

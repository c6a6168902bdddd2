-- A disk in memory under a fuse as the outside, what the fuse lets pass, and what a cut now leaves.
use Rattle.std.specs.Prelude.{◌≡◌, ◌⊎◌, ◌<◌, ◌+◌, ℕ, Bool, false, not, IsTrue, nat_eq, List, length, if◌then◌else◌}
use Rattle.rig_core.specs.Bytes.{byte, put}
use Rattle.rig_core.specs.Cuts.{leaves_byte, IsLastSynchronised}
use Rattle.rig_core.specs.MemRig.{mem_state, mem_sound, first_disk, calls_of, records_of, is_starved}
use Rattle.rig_core.specs.Outside.{Outside, Now, Sound, IsFresh, AllowsTorn, KeepsNow}
use Rattle.rig_core.specs.Recorded.{IsRecorded}
use Rattle.apex_types.specs.declared.kinds.CallKind.{CallKind}
use Rattle.rig_core.specs.declared.cut.PendingBytes.{PendingBytes}
use Rattle.rig_core.specs.declared.fuse_rig.FuseRig.{FuseRig}

-- the rig as the outside: its disk in memory, with the rig's own counts of faults
abbrev pub fuse_state : FuseRig → Outside
fuse_state f = record (mem_state f.disk) {
  read_faults = f.read_faults;
  write_faults = f.write_faults;
  tell_faults = f.tell_faults;
}

-- what holds of every such rig
pub fuse_sound : (f : FuseRig) → Sound (Unit {0}) (Unit {0}) (fuse_state f)
fuse_sound f = record {
  size_fits = (mem_sound f.disk).size_fits;
  view_fills = (mem_sound f.disk).view_fills;
  counted = (mem_sound f.disk).counted;
  shown = (mem_sound f.disk).shown;
  image_fills = (mem_sound f.disk).image_fills;
  from_later = (mem_sound f.disk).from_later;
  told_now = (mem_sound f.disk).told_now;
  present = (mem_sound f.disk).present;
}

-- how many writes and syncs the fuse lets pass
abbrev pub limit_of : FuseRig → ℕ
limit_of f = f.calls

-- how many were let pass
abbrev pub passed_of : FuseRig → ℕ
passed_of f = f.passed

-- whether a write or a sync was refused, so that every call fails from then on
abbrev pub is_spent : FuseRig → Bool
is_spent f = f.spent

-- whether a record could not grow
abbrev pub is_fuse_starved : FuseRig → Bool
is_fuse_starved f = is_starved f.disk

-- how many writes, syncs and tells are in the record
abbrev pub recorded_of : FuseRig → ℕ
recorded_of f = records_of f.disk

-- one more call is in the record
abbrev pub Grows : FuseRig → FuseRig → Type 0
Grows old new = recorded_of new ≡ recorded_of old + 1

-- no call more is in the record
abbrev pub Stays : FuseRig → FuseRig → Type 0
Stays old new = recorded_of new ≡ recorded_of old

-- The call is in the record with this answer.
pub record IsEntered (kind : CallKind) (at : ℕ) (bytes : List ℕ) (entry : Bool) (old new : FuseRig) : Type 0 where
  pub entered : IsRecorded kind at bytes entry (fuse_state old).clock (calls_of old.disk) (calls_of new.disk)
  pub fed : is_fuse_starved new ≡ is_fuse_starved old

-- A write, a sync or a tell, in the record as answered so: it passes exactly where the fuse isn't spent and the record grows.
pub record IsGuarded (kind : CallKind) (at : ℕ) (bytes : List ℕ) (entry ok : Bool) (old new : FuseRig) : Type 0 where
  pub room : IsEntered kind at bytes entry old new ⊎ (Stays old new × IsTrue (is_fuse_starved new))
  pub passed : IsTrue ok → (is_spent new ≡ false) × Grows old new
  pub failed : ok ≡ false → IsTrue (is_spent new) ⊎ Stays old new

-- A write or a sync: the fuse is spent where as many have passed as may, and a call that passes is counted.
pub record Burns (ok : Bool) (old new : FuseRig) : Type 0 where
  pub limit : limit_of new ≡ limit_of old
  pub spent : is_spent new ≡ nat_eq (passed_of old) (limit_of old)
  pub passed : passed_of new ≡ (if ok then passed_of old + 1 else passed_of old)

-- A read or a tell leaves the fuse.
pub record SparesFuse (old new : FuseRig) : Type 0 where
  pub limit : limit_of new ≡ limit_of old
  pub spent : is_spent new ≡ is_spent old
  pub passed : passed_of new ≡ passed_of old

-- A read passes exactly where the fuse isn't spent, and takes no room.
pub record IsGivenRead (ok : Bool) (old new : FuseRig) : Type 0 where
  pub answer : ok ≡ not (is_spent old)
  pub recorded : recorded_of new ≡ recorded_of old
  pub starved : is_fuse_starved new ≡ is_fuse_starved old

-- A write that is in the record puts its bytes and leaves them pending, also where the fuse refused it.
pub record PutsPending (at : ℕ) (bytes : List ℕ) (old new : FuseRig) : Type 0 where
  pub view : Grows old new → (fuse_state new).view ≡ put at bytes (fuse_state old).view
  pub torn : Grows old new → AllowsTorn at (length bytes) (fuse_state old) (fuse_state new)

-- A write without a record changes nothing but counts.
pub record IsUnwritten (old new : FuseRig) : Type 0 where
  pub view : Stays old new → (fuse_state new).view ≡ (fuse_state old).view
  pub kept : Stays old new → KeepsNow (fuse_state old) (fuse_state new)

-- A rig begins with this image and lets so many writes and syncs pass: nothing has passed or is pending.
pub record BeginsFused (image : List ℕ) (calls : ℕ) (f : FuseRig) : Type 0 where
  pub fresh : IsFresh image (fuse_state f)
  pub limit : limit_of f ≡ calls
  pub passed : passed_of f ≡ 0
  pub unspent : is_spent f ≡ false
  pub fed : is_fuse_starved f ≡ false

-- What a cut now leaves: an image that it may leave, each byte as reads give it or as it was last synchronised.
pub record IsCutNow (left : PendingBytes) (f : FuseRig) (image : List ℕ) : Type 0 where
  pub may_leave : Now (fuse_state f) image (fuse_state f).told
  pub synchronised : List ℕ
  pub last : IsLastSynchronised (first_disk f.disk) (calls_of f.disk) synchronised
  pub each : (k : ℕ) → k < length image → byte image k ≡ (if leaves_byte left k then byte (fuse_state f).view k else byte synchronised k)

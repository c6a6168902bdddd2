-- What a power cut leaves of a recorded run, by the pending bytes that it leaves.
use Rattle.std.specs.Prelude.{◌≡◌, ◌<◌, ℕ, ◌/◌, ◌%◌, Bool, true, false, nat_eq, List, [], ◌++◌, length, All, if◌then◌else◌}
use Rattle.apex_types.specs.declared.kinds.CallKind.{CallKind}
use Rattle.apex_types.specs.declared.kinds.CallKind.TheVariants.{Read, Write, Sync, Tell}
use Rattle.rig_core.specs.declared.call.CallRecord.{CallRecord}
use Rattle.rig_core.specs.declared.cut.PendingBytes.{PendingBytes}
use Rattle.rig_core.specs.declared.cut.PendingBytes.TheVariants as pending
use Rattle.rig_core.specs.Bytes.{byte}
use Rattle.rig_core.specs.Record.{Disk, replay, MayKeep}

-- whether the pending byte at a place is left
abbrev pub leaves_byte : PendingBytes → ℕ → Bool
leaves_byte pending.None k = false
leaves_byte pending.All k = true
leaves_byte pending.EvenBlocks k = nat_eq (k / 512 % 2) 0

-- whether the call was a sync that answered Ok
abbrev pub made_sure : CallKind → Bool → Bool
made_sure Read ok = false
made_sure Write ok = false
made_sure Sync ok = ok
made_sure Tell ok = false

-- What was last synchronised: what reads gave when nothing was pending, with no sync since that answered Ok.
pub record IsLastSynchronised (d : Disk) (calls : List CallRecord) (bytes : List ℕ) : Type 0 where
  pub early : List CallRecord
  pub late : List CallRecord
  pub parts : early ++ late ≡ calls
  pub sure : (replay d early).pending ≡ []
  pub shown : (replay d early).view ≡ bytes
  pub none_since : All (λ (c : CallRecord). made_sure c.kind c.ok ≡ false) late

-- What a cut after these calls leaves: an image that it may leave, each byte as reads give it or as it was last synchronised.
pub record IsCut (left : PendingBytes) (d : Disk) (calls : List CallRecord) (image : List ℕ) : Type 0 where
  pub may_keep : MayKeep (replay d calls) image (replay d calls).told
  pub synchronised : List ℕ
  pub last : IsLastSynchronised d calls synchronised
  pub each : (k : ℕ) → k < length image → byte image k ≡ (if leaves_byte left k then byte (replay d calls).view k else byte synchronised k)

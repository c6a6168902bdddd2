-- What a command does to the disk.
use Rattle.std.specs.Prelude.{◌≡◌, ◌≢◌, ◌⊎◌, ◌++◌, ◌≤◌, ◌==◌, ℕ, false, List, [], Option, Some, Ok}
use Rattle.std.specs.Option.{ForSome}
use Rattle.apex_types.specs.Rows.{Rows}
use Rattle.apex_types.specs.declared.calls.Line.{Line}
use Rattle.apex_model.specs.Durable.{Durable, start, IsCut}
use Rattle.apex_model.specs.Image.{state_of}
use Rattle.apex_model.specs.Isolation.{own_lines}
use Rattle.apex_model.specs.Moments.{IsLeft}
use Rattle.apex_model.specs.Run.{world_after_all}
use Rattle.apex_model.specs.ToldText.{replies_in}
use Rattle.apex_model.specs.Validity.{IsValid}
use Rattle.apex_model.specs.World.{World}
use Rattle.rig_core.specs.Leaves.{LeavesPairs}
use Rattle.rig_core.specs.Outside.{Outside, Now, AllNow, Later}
use Rattle.recover_scan.specs.Format.{OldOrFormatted, KeepsRest, IsFormatted, IsWholeEmpty}
use Rattle.script_model.specs.Script.{script_of}
use Rattle.image_layout.specs.Ready.{Stores}
use Rattle.script_run.specs.Pairs.{IsPair}
use Rattle.stress_script.specs.Generator.{generated}
use Rattle.apex_host.specs.Endings.{IsTableOf, IsNamed}
use Rattle.apex_host.specs.Told.{run_text}
use Rattle.apex_host.specs.declared.command.Command.{Command}
use Rattle.apex_host.specs.declared.command.Command.TheVariants.{Format, Run, Only, Check, Stress, Sweep}
use Rattle.apex_host.specs.declared.status.Status.{Status}
use Rattle.apex_host.specs.declared.status.Status.TheVariants.{Done, DeviceFault, ReplyFault}

-- an image that a cut might have left before, whatever was told
abbrev pub WasLeft : Outside → List ℕ → Type 0
WasLeft old image = (told : List ℕ) × Now old image told

-- Nothing was done but to tell: no write and no sync was made, reads give what they gave, and a cut
-- leaves images that it might have left before.
pub record OnlyTells (tells_view : Type 0) (old new : Outside) : Type 0 where
  pub later : Later old new
  pub writes : new.writes ≤ old.writes
  pub syncs : new.syncs ≤ old.syncs
  pub view : tells_view → new.view ≡ old.view
  pub cuts : LeavesPairs (λ image told. WasLeft old image) old new

-- The disk is as it was at the start: no write and no sync was made, reads give what they gave, and
-- at every moment a cut leaves that.
pub record IsUntouched (tells_view : Type 0) (old new : Outside) : Type 0 where
  pub writes : new.writes ≤ old.writes
  pub syncs : new.syncs ≤ old.syncs
  pub view : tells_view → new.view ≡ old.view
  pub cuts : LeavesPairs (λ image told. image ≡ old.view) old new

-- ---- a format

-- the image as it was, one that is not formatted, or one in which nothing is stored, and what a
-- format doesn't write is as it was
abbrev pub IsMomentOfFormat : Rows → List ℕ → List ℕ → Type 0
IsMomentOfFormat rows old image = OldOrFormatted rows old image × KeepsRest rows old image

-- at every moment a cut leaves such an image
abbrev pub FormatsDisk : Rows → Outside → Outside → Type 0
FormatsDisk rows old new = LeavesPairs (λ image told. IsMomentOfFormat rows old.view image) old new

-- nothing is stored in the image, and each byte of it is the one that a format leaves on the old
-- image
abbrev pub IsEmptied : Rows → List ℕ → List ℕ → Type 0
IsEmptied rows old image = IsFormatted rows image × IsWholeEmpty rows old image

-- So is what a cut leaves now, and what reads give.
pub record HoldsEmpty (tells_view : Type 0) (rows : Rows) (old new : Outside) : Type 0 where
  pub images : AllNow (IsEmptied rows old.view) new
  pub view : tells_view → IsEmptied rows old.view new.view

-- A format for the table that the bytes left spell has begun, or ended.
pub record BeginsFormat (left : Option (List ℕ)) (old new : Outside) : Type 0 where
  pub rows : Rows
  pub table : IsTableOf left rows
  pub moments : FormatsDisk rows old new

-- It has ended.
pub record MakesEmpty (tells_view : Type 0) (left : Option (List ℕ)) (old new : Outside)
    : Type 0 where
  pub begins : BeginsFormat left old new
  pub holds : HoldsEmpty tells_view begins.rows old new

-- ---- a run

-- Where the rig tells its bytes and its text, each image that a cut leaves stands for a state that
-- the text told until then allows, in a run of these lines from the state that the image stood for.
abbrev pub LeavesRun : Type 0 → Type 0 → Rows → List Line → Outside → Outside → Type 0
LeavesRun tells_text tells_view rows lines old new = tells_text → tells_view
    → (stored : Durable) → state_of rows old.view ≡ Ok stored
    → LeavesPairs (IsPair rows (start rows stored) lines old.told) old new

-- A run of the lines that the sources spell has begun.
pub record BeginsRun (tells_text tells_view : Type 0) (table script : Option (List ℕ))
    (old new : Outside) : Type 0 where
  pub rows : Rows
  pub lines : List Line
  pub spelled : IsTableOf table rows
  pub read : ForSome script (λ bytes. script_of rows bytes ≡ Ok lines)
  pub pairs : LeavesRun tells_text tells_view rows lines old new
  pub valid : tells_view → (stored : Durable) → state_of rows old.view ≡ Ok stored
      → IsValid rows (start rows stored)

-- this image stands for what a cut leaves at the end of a run in which these reads failed
abbrev pub HoldsWorld : Rows → List ℕ → Durable → List Line → List ℕ → Type 0
HoldsWorld rows failed stored lines image =
    Stores rows (IsCut (world_after_all rows failed (start rows stored) lines)) image

-- So is what a cut leaves now, and what reads give, and that run was told.
pub record HoldsRun (tells_text : Type 0) (rows : Rows) (lines : List Line) (stored : Durable)
    (old new : Outside) : Type 0 where
  pub failed : List ℕ
  pub told : tells_text → new.told ≡ old.told ++ run_text rows failed (start rows stored) lines
  pub images : AllNow (HoldsWorld rows failed stored lines) new
  pub view : HoldsWorld rows failed stored lines new.view

-- It has come to its end.
pub record CompletesRun (tells_text tells_view : Type 0) (table script : Option (List ℕ))
    (old new : Outside) : Type 0 where
  pub begins : BeginsRun tells_text tells_view table script old new
  pub holds : tells_view → (stored : Durable) → state_of begins.rows old.view ≡ Ok stored
      → HoldsRun tells_text begins.rows begins.lines stored old new

-- at every moment a cut leaves the image as it was, or one that stands for a state which the text
-- told until then allows
abbrev pub RunsSafely : Rows → List Line → Durable → Outside → Outside → Type 0
RunsSafely rows lines stored old new = LeavesPairs
    (λ image told. (image ≡ old.view) ⊎ IsPair rows (start rows stored) lines old.told image told)
    old new

-- ---- the lines of one partition's upstream

-- A cut may leave this image when so many replies to a partition were told since the lines of its
-- upstream were begun, in which no read failed.
pub record IsHeardPair (rows : Rows) (p : ℕ) (w : World) (lines : List Line)
    (before image told : List ℕ) : Type 0 where
  pub more : List ℕ
  pub told_is : told ≡ before ++ more
  pub stores : Stores rows
      (IsLeft rows [] w (own_lines rows p lines) (λ q. q == p) (replies_in more)) image

-- Where the rig tells its bytes and its text, each image that a cut leaves has this beside the text,
-- for the state that the image stood for.
abbrev pub LeavesFrom : Type 0 → Type 0 → Rows → (Durable → List ℕ → List ℕ → Type 0) → Outside
    → Outside → Type 0
LeavesFrom tells_text tells_view rows P old new = tells_text → tells_view
    → (stored : Durable) → state_of rows old.view ≡ Ok stored → LeavesPairs (P stored) old new

-- The lines of a script that are of the upstream of the partition of this name have begun.
pub record BeginsOnly (tells_text tells_view : Type 0) (name : List ℕ)
    (table script : Option (List ℕ)) (old new : Outside) : Type 0 where
  pub rows : Rows
  pub p : ℕ
  pub lines : List Line
  pub spelled : IsTableOf table rows
  pub named : IsNamed rows name p
  pub read : ForSome script (λ bytes. script_of rows bytes ≡ Ok lines)
  pub pairs : LeavesFrom tells_text tells_view rows
      (λ stored. IsHeardPair rows p (start rows stored) lines old.told) old new

-- What a cut leaves now, and what reads give, stands for what a cut leaves of a world.
pub record HoldsCutOf (rows : Rows) (w : World) (new : Outside) : Type 0 where
  pub images : AllNow (Stores rows (IsCut w)) new
  pub view : Stores rows (IsCut w) new.view

-- They have come to their end.
pub record CompletesOnly (tells_text tells_view : Type 0) (name : List ℕ)
    (table script : Option (List ℕ)) (old new : Outside) : Type 0 where
  pub begins : BeginsOnly tells_text tells_view name table script old new
  pub holds : tells_view → (stored : Durable) → state_of begins.rows old.view ≡ Ok stored
      → HoldsCutOf begins.rows (world_after_all begins.rows [] (start begins.rows stored)
      (own_lines begins.rows begins.p begins.lines)) new

-- ---- a load of lines drawn from a seed

-- A cut may leave this image of a run of these lines of which no reply is told, and in which no read
-- failed.
abbrev pub IsUntoldImage : Rows → World → List Line → List ℕ → Type 0
IsUntoldImage rows w lines image = Stores rows (IsLeft rows [] w lines (λ q. false) 0) image

-- so it is at every moment of a load from the state that the image stood for
abbrev pub LeavesLoad : Type 0 → Rows → List Line → Outside → Outside → Type 0
LeavesLoad tells_view rows lines old new = tells_view → (stored : Durable)
    → state_of rows old.view ≡ Ok stored
    → LeavesPairs (λ image told. IsUntoldImage rows (start rows stored) lines image) old new

-- A load for the table that the bytes left spell has begun.
pub record BeginsLoad (tells_view : Type 0) (seed count : ℕ) (table : Option (List ℕ))
    (old new : Outside) : Type 0 where
  pub rows : Rows
  pub spelled : IsTableOf table rows
  pub images : LeavesLoad tells_view rows (generated rows seed count) old new

-- It has come to its end.
pub record CompletesLoad (tells_view : Type 0) (seed count : ℕ) (table : Option (List ℕ))
    (old new : Outside) : Type 0 where
  pub begins : BeginsLoad tells_view seed count table old new
  pub holds : tells_view → (stored : Durable) → state_of begins.rows old.view ≡ Ok stored
      → HoldsCutOf begins.rows (world_after_all begins.rows [] (start begins.rows stored)
      (generated begins.rows seed count)) new

-- ---- any command

-- What a command does to the disk, by how it ends.
pub data LeavesDisk (tells_text tells_view : Type 0) (table script : Option (List ℕ))
    (old new : Outside) : Option Command → Status → Type 0 where
  -- A format that comes to its end made the disk the empty image.
  formatted : MakesEmpty tells_view table old new
      → LeavesDisk tells_text tells_view table script old new (Some Format) Done
  -- One that met a fault of the device or of telling has begun.
  format_failed : (status : Status) → (status ≡ DeviceFault) ⊎ (status ≡ ReplyFault)
      → BeginsFormat table old new
      → LeavesDisk tells_text tells_view table script old new (Some Format) status
  -- A run that comes to its end carried out its lines.
  ran : CompletesRun tells_text tells_view table script old new
      → LeavesDisk tells_text tells_view table script old new (Some Run) Done
  -- One that met such a fault in a line has begun.
  run_failed : (status : Status) → (status ≡ DeviceFault) ⊎ (status ≡ ReplyFault)
      → BeginsRun tells_text tells_view table script old new
      → LeavesDisk tells_text tells_view table script old new (Some Run) status
  -- The lines of one partition's upstream, at their end or after such a fault.
  heard : (name : List ℕ) → CompletesOnly tells_text tells_view name table script old new
      → LeavesDisk tells_text tells_view table script old new (Some (Only name)) Done
  hearing_failed : (name : List ℕ) (status : Status)
      → (status ≡ DeviceFault) ⊎ (status ≡ ReplyFault)
      → BeginsOnly tells_text tells_view name table script old new
      → LeavesDisk tells_text tells_view table script old new (Some (Only name)) status
  -- A check leaves the disk untouched.
  checked : IsUntouched tells_view old new
      → LeavesDisk tells_text tells_view table script old new (Some Check) Done
  -- A load at its end, or after a fault of the device in a line, or of telling.
  stressed : (seed count : ℕ) → CompletesLoad tells_view seed count table old new
      → LeavesDisk tells_text tells_view table script old new (Some (Stress seed count)) Done
  stress_failed : (seed count : ℕ) (status : Status)
      → (status ≡ DeviceFault) ⊎ (status ≡ ReplyFault)
      → BeginsLoad tells_view seed count table old new
      → LeavesDisk tells_text tells_view table script old new (Some (Stress seed count)) status
  -- A sweep works in memory, and leaves the disk untouched.
  swept : IsUntouched tells_view old new
      → LeavesDisk tells_text tells_view table script old new (Some Sweep) Done
  -- All else leaves the disk untouched.
  untouched : (command : Option Command) (status : Status) → status ≢ Done
      → IsUntouched tells_view old new
      → LeavesDisk tells_text tells_view table script old new command status

-- What follows from how a command ends.
use Rattle.std.specs.Prelude.{◌≡◌, ◌⊎◌, ◌++◌, ◌<◌, ◌≤◌, ℕ, Bool, true, false, List, Option, Some, None, Result, Ok, ⊤}
use Rattle.std.specs.List.{AllByRecursion}
use Rattle.apex_types.specs.Rows.{Rows}
use Rattle.apex_types.specs.declared.calls.Line.{Line}
use Rattle.apex_model.specs.Durable.{Durable, start}
use Rattle.apex_model.specs.FailedReads.{is_among}
use Rattle.apex_model.specs.Image.{Refusal as ImageRefusal, state_of}
use Rattle.apex_model.specs.Isolation.{own_lines, replies_of, restricted}
use Rattle.apex_model.specs.Run.{Told, fault_line, replies_to, text_of}
use Rattle.apex_model.specs.ToldText.{HasNoFeed, failed_in}
use Rattle.model_laws.specs.RunText.{is_failure}
use Rattle.rig_core.specs.Causes.{Rose}
use Rattle.table_model.specs.Table.{table_of}
use Rattle.table_model.specs.declared.errors.TableError.{TableError}
use Rattle.script_model.specs.Reading.{partition_at}
use Rattle.script_model.specs.Script.{Refusal, script_of}
use Rattle.power_sweep.specs.declared.sweeping.Swept.{Swept}
use Rattle.apex_host.specs.Endings.{Seen, IsNoTable, IsNoScript, HasTable, HasScript, ReadsFor, OpensImage, IsNamed, RefusesImage, DeviceFailed, image_bytes, is_too_large, IsSweep}
use Rattle.apex_host.specs.Told.{swept_line, table_fault_line, script_fault_line, mount_fault_line}
use Rattle.apex_host.specs.declared.command.Command.{Command}
use Rattle.apex_host.specs.declared.command.Command.TheVariants.{Format, Run, Only, Check, Stress, Sweep}
use Rattle.apex_host.specs.declared.status.Status.{Status}
use Rattle.apex_host.specs.declared.status.Status.TheVariants.{Done, Usage, TableRefused, ScriptRefused, ImageRefused, CommandRefused, SourceFault, DeviceFault, ReplyFault, OutOfMemory}

-- ---- each status only for its cause

-- a command had all that it is given, and the image stands for a state
abbrev pub HasState : Type 0 → Seen → Seen → Rows → Command → Type 0
HasState tells_view old now rows c = OpensImage old now rows c
    × (tells_view → (stored : Durable) × (state_of rows old.view ≡ Ok stored))

-- or it stands for none
abbrev pub HasNoImage : Type 0 → Seen → Seen → Rows → Command → Type 0
HasNoImage tells_view old now rows c = OpensImage old now rows c
    × ((r : ImageRefusal) × RefusesImage tells_view rows old.size old.view r)

-- a sweep had a script for its table, which with it is too large or not
abbrev pub HasSize : Bool → Seen → Seen → Rows → Type 0
HasSize large old now rows =
    (lines : List Line) × HasScript old now rows lines × (is_too_large rows lines ≡ large)

-- what is so where a command comes to its end, and where the image is refused
abbrev pub MeansDone : Type 0 → Command → Seen → Seen → Rows → Type 0
MeansDone tells_view Format old now rows = image_bytes rows ≤ old.size
MeansDone tells_view Sweep old now rows = HasSize false old now rows
MeansDone tells_view c old now rows = HasState tells_view old now rows c

abbrev pub MeansRefused : Type 0 → Command → Seen → Seen → Rows → Type 0
MeansRefused tells_view Format old now rows = old.size < image_bytes rows
MeansRefused tells_view c old now rows = HasNoImage tells_view old now rows c

-- what is so where a command is refused itself
abbrev pub MeansNone : Command → Seen → Seen → Rows → Type 0
MeansNone (Only name) old now rows = partition_at rows name ≡ None
MeansNone Sweep old now rows = HasSize true old now rows
MeansNone _ old now rows = ⊥

-- and where the device failed: a sweep has none
abbrev pub MeansFault : Command → Seen → Seen → Type 0
MeansFault Sweep old now = ⊥
MeansFault c old now = DeviceFailed old now

-- the words are a command, of which this is so
abbrev pub OfCommand : Option Command → (Command → Type 0) → Type 0
OfCommand command P = (c : Command) × (command ≡ Some c) × P c

-- what is so where a command ends with a status
abbrev pub Means : Type 0 → Option Command → Seen → Seen → Status → Type 0
Means tells_view command old now Done = OfCommand command (λ c. (rows : Rows)
    × HasTable old now rows × MeansDone tells_view c old now rows)
Means tells_view command old now Usage = command ≡ None
Means tells_view command old now TableRefused = (e : TableError) × IsNoTable old.table e
Means tells_view command old now ScriptRefused = OfCommand command (λ c. (rows : Rows)
    × (r : Refusal) × HasTable old now rows × ReadsFor rows c × IsNoScript rows old.script r)
Means tells_view command old now ImageRefused = OfCommand command (λ c. (rows : Rows)
    × HasTable old now rows × MeansRefused tells_view c old now rows)
Means tells_view command old now CommandRefused = OfCommand command (λ c. (rows : Rows)
    × HasTable old now rows × MeansNone c old now rows)
Means tells_view command old now SourceFault =
    Rose old.table_faults now.table_faults ⊎ Rose old.script_faults now.script_faults
Means tells_view command old now DeviceFault = OfCommand command (λ c. MeansFault c old now)
Means tells_view command old now ReplyFault = Rose old.tell_faults now.tell_faults
Means tells_view command old now OutOfMemory = OfCommand command (λ c. ⊤)

-- ---- what comes where nothing hinders it

-- the bytes of a source, which it tells, are read as a table with this result
abbrev pub ReadsTable : Seen → Result Rows TableError → Type 0
ReadsTable old read = (bytes : List ℕ) × (old.table ≡ Some bytes) × (table_of bytes ≡ read)

-- and as a script for a table
abbrev pub ReadsLines : Rows → Seen → Result (List Line) Refusal → Type 0
ReadsLines rows old read =
    (bytes : List ℕ) × (old.script ≡ Some bytes) × (script_of rows bytes ≡ read)

-- the sources spell what a command is given beside its table
abbrev pub IsGiven : Rows → Seen → Command → Type 0
IsGiven rows old Format = ⊥
IsGiven rows old Run = (lines : List Line) × ReadsLines rows old (Ok lines)
IsGiven rows old (Only name) =
    ((p : ℕ) × IsNamed rows name p) × ((lines : List Line) × ReadsLines rows old (Ok lines))
IsGiven rows old Check = ⊤
IsGiven rows old (Stress seed count) = ⊤
IsGiven rows old Sweep = ⊥

-- No count of faults rose of telling, nor of the table's source.
pub record IsQuiet (old now : Seen) : Type 0 where
  pub tells : ¬ (Rose old.tell_faults now.tell_faults)
  pub table : ¬ (Rose old.table_faults now.table_faults)

-- nor of the script's
abbrev pub IsQuietRun : Seen → Seen → Type 0
IsQuietRun old now = IsQuiet old now × ¬ (Rose old.script_faults now.script_faults)

-- nor of the device
abbrev pub IsQuietFormat : Seen → Seen → Type 0
IsQuietFormat old now = IsQuiet old now × ¬ (DeviceFailed old now)

-- the status is this, and so is the text told
abbrev pub EndsWith : Type 0 → Seen → Seen → Status → Status → List ℕ → Type 0
EndsWith tells_text old now result status text =
    (result ≡ status) × (tells_text → now.told ≡ old.told ++ text)

-- or memory ran out
abbrev pub EndsOrStarves : Type 0 → Seen → Seen → Status → Status → List ℕ → Type 0
EndsOrStarves tells_text old now result status text =
    EndsWith tells_text old now result status text ⊎ (result ≡ OutOfMemory)

-- a sweep of these lines was told, or memory ran out
abbrev pub TellsSweep : Type 0 → Rows → List Line → Seen → Seen → Status → Type 0
TellsSweep tells_text rows lines old now result = ((counts : Swept) × IsSweep rows lines counts
    × EndsWith tells_text old now result Done (swept_line counts)) ⊎ (result ≡ OutOfMemory)

-- ---- partitions that are kept apart

-- Of the lines of these replies, the reads that failed are those of which the reply tells it.
abbrev pub AreFailed : List ℕ → List Told → Type 0
AreFailed failed replies =
    AllByRecursion (λ told. is_among failed told.number ≡ is_failure told) replies

-- some replies are the first of all
abbrev pub AreFirst : List Told → List Told → Type 0
AreFirst first all = (others : List Told) × (first ++ others ≡ all)

-- the replies to some lines from a stored state on, where these reads failed
abbrev pub run_replies : Rows → List Line → Durable → List ℕ → List Told
run_replies rows lines stored failed = replies_to rows failed (start rows stored) lines

-- those that a partition gets with the lines and the stored state of its upstream alone
abbrev pub own_replies : Rows → List Line → Durable → List ℕ → ℕ → List Told
own_replies rows lines stored failed p =
    replies_of p (run_replies rows (own_lines rows p lines) (restricted rows p stored) failed)

-- The line that tells the fault with which a run ends: of a source, of a read when the image was
-- opened, or of the device in a line of the script.
pub data IsFaultLine : List ℕ → Type 0 where
  of_table : IsFaultLine table_fault_line
  of_script : IsFaultLine script_fault_line
  of_mount : IsFaultLine mount_fault_line
  in_line : (number : ℕ) → IsFaultLine (fault_line number)

-- no whole line of a reply: a part of a line, or the line of a fault
abbrev pub HasNoReply : List ℕ → Type 0
HasNoReply text = HasNoFeed text ⊎ IsFaultLine text

-- A text tells the lines of these replies, and then no other whole one. It tells which of their
-- reads failed. Whichever reads fail in the lines after theirs, they are the first replies to all
-- lines, and each partition's are the first of those that it gets with the lines and the stored state
-- of its upstream alone.
pub record TellsApart (rows : Rows) (lines : List Line) (stored : Durable) (text : List ℕ)
    : Type 0 where
  pub replies : List Told
  pub rest : List ℕ
  pub told : text ≡ text_of replies ++ rest
  pub no_reply : HasNoReply rest
  pub known : AreFailed (failed_in text) replies
  pub first : (failed : List ℕ) → AreFailed failed replies
      → AreFirst replies (run_replies rows lines stored failed)
  pub apart : (failed : List ℕ) → AreFailed failed replies → (p : ℕ)
      → AreFirst (replies_of p replies) (own_replies rows lines stored failed p)

-- A text tells the replies to all lines, where the reads failed that the text tells, and each
-- partition's are all of those that it gets with the lines and the stored state of its upstream
-- alone.
pub record TellsAllApart (rows : Rows) (lines : List Line) (stored : Durable) (text : List ℕ)
    : Type 0 where
  pub told : text ≡ text_of (run_replies rows lines stored (failed_in text))
  pub apart : (p : ℕ) → replies_of p (run_replies rows lines stored (failed_in text))
      ≡ own_replies rows lines stored (failed_in text) p

-- a text was told since, of which this holds
abbrev pub HasTold : List ℕ → List ℕ → (List ℕ → Type 0) → Type 0
HasTold old now P = (text : List ℕ) × (now ≡ old ++ text) × P text

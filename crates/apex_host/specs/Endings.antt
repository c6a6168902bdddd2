-- How each command ends.
use Rattle.std.specs.Prelude.{◌≡◌, ◌≢◌, ◌⊎◌, ◌++◌, ◌+◌, ◌*◌, ◌<◌, ◌≤◌, ℕ, Bool, true, false, ◌||◌, nat_lt, List, [], length, take, slice_get, Option, Some, None, Ok, Err, IsTrue, ⊤}
use Rattle.std.specs.Option.{ForSome}
use Rattle.apex_types.specs.Rows.{Rows}
use Rattle.apex_types.specs.declared.calls.Line.{Line}
use Rattle.apex_model.specs.Accepted.{IsAccepted}
use Rattle.apex_model.specs.Durable.{Durable, start}
use Rattle.apex_model.specs.Image.{Refusal as ImageRefusal, too_small, state_of}
use Rattle.apex_model.specs.Isolation.{upstream_marks, concerns}
use Rattle.apex_model.specs.Layout.{layout_blocks}
use Rattle.apex_model.specs.Run.{fault_line}
use Rattle.apex_model.specs.Validity.{IsValid}
use Rattle.rig_core.specs.Causes.{Rose}
use Rattle.rig_core.specs.Outside.{Outside}
use Rattle.table_model.specs.Table.{table_of}
use Rattle.table_model.specs.declared.errors.TableError.{TableError}
use Rattle.script_model.specs.Reading.{partition_at}
use Rattle.script_model.specs.Script.{Refusal, script_of}
use Rattle.script_model.specs.Refusals.{refusal_line}
use Rattle.module_session.specs.Sessions.{IsOfLogbooks}
use Rattle.script_run.specs.Reached.{RoseBy}
use Rattle.script_run.specs.declared.tally.Tally.{Tally}
use Rattle.script_run.specs.Names.{name_changes}
use Rattle.power_sweep.specs.Counts.{AreMounted}
use Rattle.power_sweep.specs.Whole.{first_world, last_files}
use Rattle.power_sweep.specs.declared.sweeping.Swept.{Swept}
use Rattle.apex_host.specs.Told.{IsCutShort, run_text, own_text, load_tally, formatted_line, good_line, stressed_line, swept_line, usage_line, table_refused_line, table_fault_line, unknown_partition_line, script_fault_line, image_refused_line, mount_fault_line, format_fault_line, stress_fault_line, too_large_line}
use Rattle.apex_host.specs.declared.command.Command.{Command}
use Rattle.apex_host.specs.declared.command.Command.TheVariants.{Format, Run, Only, Check, Stress, Sweep}
use Rattle.apex_host.specs.declared.status.Status.{Status}
use Rattle.apex_host.specs.declared.status.Status.TheVariants.{Done, Usage, TableRefused, ScriptRefused, ImageRefused, CommandRefused, SourceFault, DeviceFault, ReplyFault, OutOfMemory}

-- ---- what is seen around a command

-- At one moment: the bytes left in the two sources where they tell them, the device's size in
-- bytes and the bytes that reads of it give, the text told, and the counts of faults.
pub record Seen : Type 0 where
  pub table : Option (List ℕ)
  pub script : Option (List ℕ)
  pub size : ℕ
  pub view : List ℕ
  pub told : List ℕ
  pub table_faults : ℕ
  pub script_faults : ℕ
  pub read_faults : ℕ
  pub write_faults : ℕ
  pub tell_faults : ℕ

-- of each source the bytes left and the count of faults, and the device with its text
abbrev pub seen : Option (List ℕ) → ℕ → Option (List ℕ) → ℕ → Outside → Seen
seen table table_faults script script_faults o = record {
  table = table;
  script = script;
  size = o.size;
  view = o.view;
  told = o.told;
  table_faults = table_faults;
  script_faults = script_faults;
  read_faults = o.read_faults;
  write_faults = o.write_faults;
  tell_faults = o.tell_faults;
}

-- what the sources and the device show of themselves at one moment
abbrev pub seen_by : {T S R : Type 0} → (T → Option (List ℕ)) → (T → ℕ) → (S → Option (List ℕ))
    → (S → ℕ) → (R → Outside) → T → S → R → Seen
seen_by table table_faults script script_faults device t s r =
    seen (table t) (table_faults t) (script s) (script_faults s) (device r)

-- the bytes left, where they are told, spell this table
abbrev pub IsTableOf : Option (List ℕ) → Rows → Type 0
IsTableOf left rows = ForSome left (λ bytes. table_of bytes ≡ Ok rows)

-- they are no table, for this reason
abbrev pub IsNoTable : Option (List ℕ) → TableError → Type 0
IsNoTable left e = ForSome left (λ bytes. table_of bytes ≡ Err e)

-- they are no script for a table, for this reason
abbrev pub IsNoScript : Rows → Option (List ℕ) → Refusal → Type 0
IsNoScript rows left r = ForSome left (λ bytes. script_of rows bytes ≡ Err r)

-- A source gave this table, and was read to its end.
pub record GaveTable (left now : Option (List ℕ)) (rows : Rows) : Type 0 where
  pub accepted : IsAccepted rows
  pub spelled : IsTableOf left rows
  pub ended : ForSome left (λ bytes. now ≡ Some [])

-- A source gave these lines of a script for a table, and was read to its end.
pub record GaveScript (left now : Option (List ℕ)) (rows : Rows) (lines : List Line) : Type 0 where
  pub spelled : ForSome left (λ bytes. script_of rows bytes ≡ Ok lines)
  pub ended : ForSome left (λ bytes. now ≡ Some [])

-- the command was given this table
abbrev pub HasTable : Seen → Seen → Rows → Type 0
HasTable old now rows = GaveTable old.table now.table rows

-- and these lines of a script for it
abbrev pub HasScript : Seen → Seen → Rows → List Line → Type 0
HasScript old now rows lines = GaveScript old.script now.script rows lines

-- this partition of the table has a name
abbrev pub IsNamed : Rows → List ℕ → ℕ → Type 0
IsNamed rows name p = partition_at rows name ≡ Some p

-- a command reads its script, after its table and the partition that it is for
abbrev pub ReadsFor : Rows → Command → Type 0
ReadsFor rows Format = ⊥
ReadsFor rows Run = ⊤
ReadsFor rows (Only name) = (p : ℕ) × IsNamed rows name p
ReadsFor rows Check = ⊥
ReadsFor rows (Stress seed count) = ⊥
ReadsFor rows Sweep = ⊤

-- the command was given a script that it reads
abbrev pub HasLines : Seen → Seen → Rows → Command → Type 0
HasLines old now rows c = ReadsFor rows c × ((lines : List Line) × HasScript old now rows lines)

-- a command opens the image, after all that it is given; a sweep has images of its own
abbrev pub OpensImage : Seen → Seen → Rows → Command → Type 0
OpensImage old now rows Format = ⊥
OpensImage old now rows Run = HasLines old now rows Run
OpensImage old now rows (Only name) = HasLines old now rows (Only name)
OpensImage old now rows Check = ⊤
OpensImage old now rows (Stress seed count) = ⊤
OpensImage old now rows Sweep = ⊥

-- the bytes of a table's image
abbrev pub image_bytes : Rows → ℕ
image_bytes rows = 512 * layout_blocks rows

-- a count of the device's faults rose
abbrev pub DeviceFailed : Seen → Seen → Type 0
DeviceFailed old now =
    Rose old.read_faults now.read_faults ⊎ Rose old.write_faults now.write_faults

-- ---- a run from an image

-- The image stands for no state of this table, for this reason. That it is too small is so for
-- every device.
pub record RefusesImage (tells_view : Type 0) (rows : Rows) (size : ℕ) (view : List ℕ)
    (r : ImageRefusal) : Type 0 where
  pub reason : tells_view → state_of rows view ≡ Err r
  pub small : (wanted : ℕ) → r ≡ too_small wanted
      → (size < image_bytes rows) × (wanted ≡ image_bytes rows)

-- The image stands for a state that a run can start from, and this is so of it.
pub record StandsForOne (rows : Rows) (view : List ℕ) (P : Durable → Type 0) : Type 0 where
  pub stored : Durable
  pub image : state_of rows view ≡ Ok stored
  pub valid : IsValid rows (start rows stored)
  pub holds : P stored

-- This text is the replies to some lines, from the state that the image stands for. In some lines a
-- read failed, and so often at least did reads of the device.
pub record IsRunText (tells_view : Type 0) (rows : Rows) (lines : List Line) (old now : Seen)
    (text : List ℕ) : Type 0 where
  pub failed : List ℕ
  pub few : RoseBy (length failed) old.read_faults now.read_faults
  pub of_image : tells_view → StandsForOne rows old.view
      (λ stored. text ≡ run_text rows failed (start rows stored) lines)

-- this text is a partition's replies to some lines, from that state
abbrev pub IsHeardText : Type 0 → Rows → ℕ → List Line → Seen → List ℕ → Type 0
IsHeardText tells_view rows p lines old text = tells_view → StandsForOne rows old.view
    (λ stored. text ≡ own_text rows p (start rows stored) lines)

-- the line is a tick, or of a partition from which something comes to this one
abbrev pub IsOwn : Rows → ℕ → Line → Type 0
IsOwn rows p line = IsTrue (concerns (upstream_marks rows p) line.deed)

-- The device failed in a line: in a write or a sync, or in a read of a tick or of a call of logbooks.
abbrev pub LineFailed : Line → Seen → Seen → Type 0
LineFailed line old now = Rose old.write_faults now.write_faults
    ⊎ (IsOfLogbooks line.deed × Rose old.read_faults now.read_faults)

-- ---- a load of lines, and a sweep

-- this is the tally of the replies to a load, from the state that the image stands for
abbrev pub IsLoadTally : Type 0 → Rows → ℕ → ℕ → Seen → Tally → Type 0
IsLoadTally tells_view rows seed count old tally = tells_view → StandsForOne rows old.view
    (λ stored. tally ≡ load_tally rows seed count stored)

-- the table's image has more than 1,024 blocks, or the script more than 64 lines
abbrev pub is_too_large : Rows → List Line → Bool
is_too_large rows lines = nat_lt 1024 (layout_blocks rows) || nat_lt 64 (length lines)

-- For each number of calls of the device, up to all of them, cuts left three images, and all of them
-- mounted. Each stands for a state that a cut leaves in a run of these lines from the empty image, and
-- the files are those of these states. The calls are four at least for each change of names, and the
-- files three times those of the last world at least.
pub record IsSweep (rows : Rows) (lines : List Line) (counts : Swept) : Type 0 where
  pub images : counts.images ≡ 3 * (counts.calls + 1)
  pub mounted : counts.mounted ≡ counts.images
  pub left : AreMounted rows lines counts.images counts
  pub names : 4 * name_changes rows (first_world rows) lines ≤ counts.calls
  pub files : 3 * last_files rows lines ≤ counts.files

-- ---- why a command ends

-- The reasons in the order in which they count, each with the command, the status and the text that
-- is due. A further command adds its reasons.
pub data Ends (tells_view : Type 0) (old now : Seen) : Option Command → Status → List ℕ → Type 0 where
  -- The words are no command.
  usage : Ends tells_view old now None Usage usage_line
  -- Reading the table's source failed.
  table_fault : (c : Command) → Rose old.table_faults now.table_faults
      → Ends tells_view old now (Some c) SourceFault table_fault_line
  -- What the source gave is no table.
  table_refused : (c : Command) (e : TableError) → IsNoTable old.table e
      → Ends tells_view old now (Some c) TableRefused (table_refused_line e)
  -- A format found the device smaller than the table's image.
  too_small_to_format : (rows : Rows) → HasTable old now rows → old.size < image_bytes rows
      → Ends tells_view old now (Some Format) ImageRefused
      (image_refused_line (too_small (image_bytes rows)))
  -- A format met a failed call of the device.
  format_fault : (rows : Rows) → HasTable old now rows → image_bytes rows ≤ old.size
      → DeviceFailed old now → Ends tells_view old now (Some Format) DeviceFault format_fault_line
  -- A format made the device the empty image of the table.
  formatted : (rows : Rows) → HasTable old now rows → image_bytes rows ≤ old.size
      → Ends tells_view old now (Some Format) Done (formatted_line (layout_blocks rows))
  -- The command is for a partition that the table hasn't got.
  unknown_partition : (name : List ℕ) (rows : Rows) → HasTable old now rows
      → partition_at rows name ≡ None
      → Ends tells_view old now (Some (Only name)) CommandRefused unknown_partition_line
  -- A command had its table, and reading the script's source failed.
  script_fault : (c : Command) (rows : Rows) → HasTable old now rows → ReadsFor rows c
      → Rose old.script_faults now.script_faults
      → Ends tells_view old now (Some c) SourceFault script_fault_line
  -- What that source gave is no script for the table.
  script_refused : (c : Command) (rows : Rows) (r : Refusal) → HasTable old now rows
      → ReadsFor rows c → IsNoScript rows old.script r
      → Ends tells_view old now (Some c) ScriptRefused (refusal_line r)
  -- A command had all that it is given, and the image stands for no state of the table.
  image_refused : (c : Command) (rows : Rows) (r : ImageRefusal) → HasTable old now rows
      → OpensImage old now rows c → RefusesImage tells_view rows old.size old.view r
      → Ends tells_view old now (Some c) ImageRefused (image_refused_line r)
  -- A read of the device failed when a command opened the image.
  mount_fault : (c : Command) (rows : Rows) → HasTable old now rows → OpensImage old now rows c
      → Rose old.read_faults now.read_faults
      → Ends tells_view old now (Some c) DeviceFault mount_fault_line
  -- A check found that the image stands for a state.
  checked : (rows : Rows) → HasTable old now rows
      → (tells_view → StandsForOne rows old.view (λ stored. ⊤))
      → Ends tells_view old now (Some Check) Done (good_line rows)
  -- The device failed in a line of the script, after the k lines before it.
  fault_in_line : (rows : Rows) (lines : List Line) (k : ℕ) (line : Line) (text : List ℕ)
      → HasTable old now rows → HasScript old now rows lines → slice_get lines k ≡ Some line
      → IsRunText tells_view rows (take k lines) old now text → LineFailed line old now
      → Ends tells_view old now (Some Run) DeviceFault (text ++ fault_line line.number)
  -- A run carried out its script.
  ran : (rows : Rows) (lines : List Line) (text : List ℕ) → HasTable old now rows
      → HasScript old now rows lines → IsRunText tells_view rows lines old now text
      → Ends tells_view old now (Some Run) Done text
  -- The device failed in a line of a partition's upstream, after the k lines of the script before it.
  fault_in_own_line : (name : List ℕ) (rows : Rows) (p : ℕ) (lines : List Line) (k : ℕ) (line : Line)
      (text : List ℕ) → HasTable old now rows → IsNamed rows name p → HasScript old now rows lines
      → slice_get lines k ≡ Some line → IsOwn rows p line
      → IsHeardText tells_view rows p (take k lines) old text
      → DeviceFailed old now
      → Ends tells_view old now (Some (Only name)) DeviceFault (text ++ fault_line line.number)
  -- The lines of a partition's upstream were carried out, and its replies are those to all lines.
  heard : (name : List ℕ) (rows : Rows) (p : ℕ) (lines : List Line) (text : List ℕ)
      → HasTable old now rows → IsNamed rows name p → HasScript old now rows lines
      → IsHeardText tells_view rows p lines old text
      → Ends tells_view old now (Some (Only name)) Done text
  -- The device failed in a line of a load. Its image was opened before.
  stress_fault : (seed count : ℕ) (rows : Rows) → HasTable old now rows
      → (tells_view → StandsForOne rows old.view (λ stored. ⊤)) → DeviceFailed old now
      → Ends tells_view old now (Some (Stress seed count)) DeviceFault stress_fault_line
  -- A load was carried out, and its replies counted.
  stressed : (seed count : ℕ) (rows : Rows) (tally : Tally) → HasTable old now rows
      → IsLoadTally tells_view rows seed count old tally
      → Ends tells_view old now (Some (Stress seed count)) Done (stressed_line count tally)
  -- The table's image or the script is too large for a sweep.
  too_large : (rows : Rows) (lines : List Line) → HasTable old now rows → HasScript old now rows lines
      → is_too_large rows lines ≡ true
      → Ends tells_view old now (Some Sweep) CommandRefused too_large_line
  -- The power was cut at every call of the script's run.
  swept : (rows : Rows) (lines : List Line) (counts : Swept) → HasTable old now rows
      → HasScript old now rows lines → is_too_large rows lines ≡ false → IsSweep rows lines counts
      → Ends tells_view old now (Some Sweep) Done (swept_line counts)
  -- Memory ran out, before there was anything to tell.
  starved : (c : Command) → Ends tells_view old now (Some c) OutOfMemory []

-- ---- how a command ends

-- all that is due is told, and the status is the result
abbrev pub ToldAll : Type 0 → Seen → Seen → Status → List ℕ → Status → Type 0
ToldAll tells_text old now status due result =
    (result ≡ status) × (tells_text → now.told ≡ old.told ++ due)

-- telling it failed after a part of it, which can't be where memory ran out
abbrev pub ToldPart : Type 0 → Seen → Seen → Status → List ℕ → Status → Type 0
ToldPart tells_text old now status due result =
    (result ≡ ReplyFault) × (status ≢ OutOfMemory)
    × IsCutShort tells_text due old.told now.told old.tell_faults now.tell_faults

-- a source's count of faults is as it was, or its fault is why the command ends
abbrev pub ComesFirst : ℕ → ℕ → List ℕ → Status → List ℕ → Type 0
ComesFirst before now line status due =
    (now ≡ before) ⊎ ((status ≡ SourceFault) × (due ≡ line))

-- and so it is with both sources
abbrev pub SourcesFirst : Seen → Seen → Status → List ℕ → Type 0
SourcesFirst old now status due =
    ComesFirst old.table_faults now.table_faults table_fault_line status due
    × ComesFirst old.script_faults now.script_faults script_fault_line status due

-- The command ends for a reason, and what is due then is told, or a part of it. A fault of a source
-- comes before all that was read of it.
pub record EndsSo (tells_text tells_view : Type 0) (command : Option Command) (old now : Seen)
    (result : Status) : Type 0 where
  pub status : Status
  pub due : List ℕ
  pub reason : Ends tells_view old now command status due
  pub told : ToldAll tells_text old now status due result
      ⊎ ToldPart tells_text old now status due result
  pub sources_first : SourcesFirst old now status due

-- The script's source is read by a command that wants it alone, after its table was given with no
-- fault, and after the partition that it is for.
pub record ReadsScript (command : Option Command) (left now : Option (List ℕ))
    (faults faults_now : ℕ) : Type 0 where
  pub c : Command
  pub is : command ≡ Some c
  pub rows : Rows
  pub gave : GaveTable left now rows
  pub wants : ReadsFor rows c
  pub quiet : faults_now ≡ faults

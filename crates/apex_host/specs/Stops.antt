-- Why a command stops before its end, and what is still to be told.
use Rattle.std.specs.Prelude.{◌≡◌, ℕ, List, [], Option, Some, None}
use Rattle.apex_types.specs.Rows.{Rows}
use Rattle.apex_model.specs.Image.{Refusal as ImageRefusal, too_small, not_formatted, other_table, bad_tree, bad_logbook}
use Rattle.rig_core.specs.Causes.{Rose}
use Rattle.rig_core.specs.Outside.{Outside}
use Rattle.recover_scan.specs.declared.errors.MountError.{MountError}
use Rattle.recover_scan.specs.declared.errors.MountError.TheVariants as mount
use Rattle.table_model.specs.declared.errors.TableError.{TableError}
use Rattle.script_model.specs.Refusals.{refusal_line}
use Rattle.call_script.specs.Errors.{refusal_of}
use Rattle.call_script.specs.declared.errors.ScriptError.{ScriptError}
use Rattle.apex_host.specs.Endings.{Seen, IsNoTable, IsNoScript, RefusesImage, Ends, SourcesFirst}
use Rattle.apex_host.specs.Told.{table_refused_line, table_fault_line, script_fault_line, image_refused_line, mount_fault_line}
use Rattle.apex_host.specs.declared.command.Command.{Command}
use Rattle.apex_host.specs.declared.status.Status.{Status}
use Rattle.apex_host.specs.declared.status.Status.TheVariants.{TableRefused, ScriptRefused, ImageRefused, SourceFault, DeviceFault, OutOfMemory}
use Rattle.apex_host.specs.declared.stops.Stop.{Stop}

-- a status, and the line that is told with it
abbrev pub told_with : Status → List ℕ → Stop
told_with status line = record { status = status; line = line }

-- Why a source gave no table. Where memory ran out nothing is told.
pub data StopsTable (left : Option (List ℕ)) (faults faults_now : ℕ) : Stop → Type 0 where
  refused : (e : TableError) → faults_now ≡ faults → IsNoTable left e
      → StopsTable left faults faults_now (told_with TableRefused (table_refused_line e))
  fault : Rose faults faults_now
      → StopsTable left faults faults_now (told_with SourceFault table_fault_line)
  starved : faults_now ≡ faults → StopsTable left faults faults_now (told_with OutOfMemory [])

-- Why a source gave no script for a table.
pub data StopsScript (rows : Rows) (left : Option (List ℕ)) (faults faults_now : ℕ)
    : Stop → Type 0 where
  refused : (e : ScriptError) → faults_now ≡ faults → IsNoScript rows left (refusal_of e)
      → StopsScript rows left faults faults_now
      (told_with ScriptRefused (refusal_line (refusal_of e)))
  fault : Rose faults faults_now
      → StopsScript rows left faults faults_now (told_with SourceFault script_fault_line)
  starved : faults_now ≡ faults
      → StopsScript rows left faults faults_now (told_with OutOfMemory [])

-- why the image is refused, if it is that for which it is not mounted
abbrev pub refusal_of_image : MountError → Option ImageRefusal
refusal_of_image (mount.TooSmall wanted) = Some (too_small wanted)
refusal_of_image mount.NotFormatted = Some not_formatted
refusal_of_image (mount.OtherTable place) = Some (other_table place)
refusal_of_image (mount.BadTree tree) = Some (bad_tree tree)
refusal_of_image (mount.BadLogbook logbook) = Some (bad_logbook logbook)
refusal_of_image mount.Device = None
refusal_of_image mount.Memory = None

-- Why a device's image was not opened for a table.
pub data StopsMount (tells_view : Type 0) (rows : Rows) (old now : Outside) : Stop → Type 0 where
  refused : (r : ImageRefusal) → RefusesImage tells_view rows old.size old.view r
      → StopsMount tells_view rows old now (told_with ImageRefused (image_refused_line r))
  fault : Rose old.read_faults now.read_faults
      → StopsMount tells_view rows old now (told_with DeviceFault mount_fault_line)
  starved : StopsMount tells_view rows old now (told_with OutOfMemory [])

-- The command ends with this status, and this line is still to be told.
pub record Owes (tells_text tells_view : Type 0) (command : Option Command) (old now : Seen)
    (end : Stop) : Type 0 where
  pub reason : Ends tells_view old now command end.status end.line
  pub told : tells_text → now.told ≡ old.told
  pub sources_first : SourcesFirst old now end.status end.line

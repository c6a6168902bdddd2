-- What is known of a run that came to its end.
use Rattle.std.specs.Prelude.{◌≡◌, ℕ, ◌*◌, ◌≤◌, List, [], sum_by}
use Rattle.apex_types.specs.Rows.{Rows}
use Rattle.apex_types.specs.declared.calls.Line.{Line}
use Rattle.apex_model.specs.Durable.{empty_durable, start}
use Rattle.apex_model.specs.Run.{world_after_all}
use Rattle.apex_model.specs.Trees.{file_count}
use Rattle.apex_model.specs.World.{World}
use Rattle.image_layout.specs.Ready.{Stores}
use Rattle.rig_core.specs.FuseRig.{fuse_state, passed_of}
use Rattle.rig_core.specs.Outside.{AllNow}
use Rattle.rig_core.specs.declared.fuse_rig.FuseRig.{FuseRig}
use Rattle.script_run.specs.Names.{name_changes}
use Rattle.power_sweep.specs.Cuts.{files_of}

-- the world that a run from the empty image starts from
abbrev pub first_world : Rows → World
first_world table = start table (empty_durable table)

-- how many files all trees of a world have
abbrev pub files_of_world : World → ℕ
files_of_world w = sum_by file_count w.files.trees

-- how many they are after these lines
abbrev pub last_files : Rows → List Line → ℕ
last_files table lines = files_of_world (world_after_all table [] (first_world table) lines)

-- the image stands for a state with so many files
abbrev pub HasFiles : Rows → ℕ → List ℕ → Type 0
HasFiles table files image = Stores table (λ stored. files_of stored ≡ files) image

-- A run of these lines came to its end: it made four calls at least for each change of names, and a
-- cut now leaves all files of its last world.
pub record IsWholeRun (table : Rows) (lines : List Line) (rig : FuseRig) : Type 0 where
  pub names : 4 * name_changes table (first_world table) lines ≤ passed_of rig
  pub files : AllNow (HasFiles table (last_files table lines)) (fuse_state rig)

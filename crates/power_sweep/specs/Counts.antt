-- What was counted of the images that cuts left.
use Rattle.std.specs.Prelude.{◌≡◌, ℕ, ◌+◌, ◌*◌, ◌^◌, ◌≤◌, List, length, sum_by}
use Rattle.std.specs.List.{AllByRecursion}
use Rattle.apex_types.specs.Rows.{Rows}
use Rattle.apex_types.specs.declared.calls.Line.{Line}
use Rattle.apex_model.specs.Durable.{Durable}
use Rattle.power_sweep.specs.Cuts.{IsLeft, files_of}
use Rattle.power_sweep.specs.declared.sweeping.Swept.{Swept}

-- So many images were counted, and all of them mounted: each stands for a state that a cut leaves in
-- a run of these lines, and the files are those of these states.
pub record AreMounted (table : Rows) (lines : List Line) (images : ℕ) (swept : Swept) : Type 0 where
  pub images_are : swept.images ≡ images
  pub mounted : swept.mounted ≡ images
  pub states : List Durable
  pub one_each : length states ≡ images
  pub left : AllByRecursion (IsLeft table lines) states
  pub files : swept.files ≡ sum_by files_of states

-- So many more images can be counted: at most 2,048 files, in 32 trees of 64, are in each.
pub record HasRoom (more : ℕ) (swept : Swept) : Type 0 where
  pub images : swept.images + more ≤ 2 ^ 34
  pub mounted : swept.mounted ≤ swept.images
  pub files : swept.files ≤ 2048 * swept.images

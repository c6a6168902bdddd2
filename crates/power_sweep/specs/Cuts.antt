-- What a cut leaves of a run from an empty image.
use Rattle.std.specs.Prelude.{◌≡◌, ℕ, ◌≤◌, List, [], length, sum_by, Option, Some, None, Ok}
use Rattle.apex_types.specs.Rows.{Rows}
use Rattle.apex_types.specs.declared.calls.Line.{Line}
use Rattle.apex_model.specs.Durable.{Durable, empty_durable, start}
use Rattle.apex_model.specs.Image.{state_of}
use Rattle.apex_model.specs.Trees.{file_count}
use Rattle.image_layout.specs.Ready.{Stores}
use Rattle.script_run.specs.Pairs.{IsLeftAt}

-- A cut leaves this state at one of these lines, or at their end, in a run from the state in which
-- nothing was ever stored.
pub record IsLeft (table : Rows) (lines : List Line) (stored : Durable) : Type 0 where
  pub done : ℕ
  pub within : done ≤ length lines
  pub left : IsLeftAt table (start table (empty_durable table)) lines done [] stored

-- the image stands for such a state
abbrev pub IsLeftImage : Rows → List Line → List ℕ → Type 0
IsLeftImage table lines image = Stores table (IsLeft table lines) image

-- how many files all trees of a state have
abbrev pub files_of : Durable → ℕ
files_of stored = sum_by file_count stored.trees

-- what is found in an image: the files of the state that it stands for, or nothing where it stands
-- for none
abbrev pub IsFound : Rows → List ℕ → Option ℕ → Type 0
IsFound table image (Some files) = Stores table (λ stored. files ≡ files_of stored) image
IsFound table image None = (stored : Durable) → state_of table image ≡ Ok stored → ⊥

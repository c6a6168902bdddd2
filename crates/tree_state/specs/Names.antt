-- What a change of a stored tree's names does, at every moment and once it is made.
use Rattle.std.specs.Prelude.{◌⊎◌, ℕ, List}
use Rattle.apex_types.specs.declared.numbers.FileNode.{FileNode}
use Rattle.apex_types.specs.declared.rows.TreeRow.{TreeRow}
use Rattle.apex_model.specs.Durable.{StoredFile}
use Rattle.apex_model.specs.Trees.{Tree}
use Rattle.rig_core.specs.Bytes.{SameElsewhere}
use Rattle.rig_core.specs.Leaves.{Leaves, LeavesElsewhere}
use Rattle.rig_core.specs.Outside.{Outside, Later, MakesAtMost}
use Rattle.tree_region.specs.InStep.{data_at, slots_long}
use Rattle.tree_region.specs.Region.{stored_file}
use Rattle.tree_state.specs.Stored.{IsTreeOf}
use Rattle.tree_state.specs.declared.state.TreeState.{TreeState}

-- what is durable of a file, over the bytes that reads give
abbrev pub durable_file : TreeRow → ℕ → List ℕ → TreeState → FileNode → StoredFile
durable_file row at view s f = stored_file (data_at row at view) s.kept.tree s.kept.table.files.items f.0

-- A region's tree changes from one to another, by changes in its slots alone.
pub record ChangesTree (tells_view : Type 0) (row : TreeRow) (at : ℕ) (before after : Tree StoredFile) (old new : Outside) : Type 0 where
  -- at every moment a cut leaves the region standing for one of the two
  pub any_moment : tells_view → Leaves (λ image. IsTreeOf row at before image ⊎ IsTreeOf row at after image) old new
  -- and so does what reads give
  pub shown : tells_view → IsTreeOf row at before new.view ⊎ IsTreeOf row at after new.view
  -- nothing changes outside both slots
  pub outside : LeavesElsewhere at (slots_long row) old new
  pub outside_view : tells_view → SameElsewhere at (slots_long row) old.view new.view
  pub later : Later old new
  pub made : MakesAtMost 4 3 0 old new

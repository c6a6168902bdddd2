-- What a change of a file's present content does, and what stays while it is made.
use Rattle.std.specs.Prelude.{◌≡◌, ◌≢◌, ℕ, ◌+◌, ◌*◌, List, slice_set}
use Rattle.apex_types.specs.declared.numbers.FileNode.{FileNode}
use Rattle.apex_types.specs.declared.rows.TreeRow.{TreeRow}
use Rattle.apex_model.specs.Files.{Content, blocks_of}
use Rattle.block_quota.specs.Quota.{raised_to}
use Rattle.present_files.specs.Present.{changes_of, content_of}
use Rattle.rig_core.specs.Bytes.{SameElsewhere}
use Rattle.rig_core.specs.Leaves.{LeavesElsewhere}
use Rattle.rig_core.specs.Outside.{Outside, Later, MakesAtMost}
use Rattle.tree_region.specs.InStep.{data_at, slots_long}
use Rattle.tree_state.specs.State.{IsState}
use Rattle.tree_state.specs.Stored.{KeepsFiles, SameContents, durable_tree}
use Rattle.tree_state.specs.declared.state.TreeState.{TreeState}
use Rattle.present_files.specs.Durable.{KeepsDurable, KeepsTree}

-- What is durable stays: at every moment the region stands for the same tree, what is kept is in step with it, and no byte changes but in its
-- data blocks. One write at most is made for each buffer.
pub record StaysDurable (tells_view : Type 0) (row : TreeRow) (at : ℕ) (o e : Outside) (old new : TreeState) : Type 0 where
  pub any_moment : KeepsTree row at o e
  pub state : IsState tells_view row at e new
  pub durable : tells_view → durable_tree row at e.view new ≡ durable_tree row at o.view old
  pub kept : KeepsDurable old.kept new.kept
  pub outside : LeavesElsewhere (at + slots_long row) (1024 * row.quota) o e
  pub outside_view : tells_view → SameElsewhere (at + slots_long row) (1024 * row.quota) o.view e.view
  pub later : Later o e
  pub made : MakesAtMost row.dirty 0 0 o e

-- One file has another content, of this size, as one change, and is charged for its blocks too. All other contents are as before, over the bytes
-- that reads gave then and give now.
pub record IsChanged (tells_view : Type 0) (row : TreeRow) (at : ℕ) (old_view new_view : List ℕ) (f : FileNode) (change : Content → Content) (size : ℕ) (old new : TreeState) : Type 0 where
  pub content : tells_view → content_of (data_at row at new_view) new.present f ≡ change (content_of (data_at row at old_view) old.present f)
  pub others : tells_view → (g : FileNode) → g.0 ≢ f.0 → content_of (data_at row at new_view) new.present g ≡ content_of (data_at row at old_view) old.present g
  pub sizes : new.present.sizes.items ≡ slice_set old.present.sizes.items f.0 (record { size = size; changes = changes_of old.present f + 1 })
  pub charges : new.charges ≡ raised_to old.charges f.0 (blocks_of size)

-- No content changed, nor any size, change count or charge.
pub record IsUnchanged (tells_view : Type 0) (row : TreeRow) (at : ℕ) (old_view new_view : List ℕ) (old new : TreeState) : Type 0 where
  pub contents : tells_view → SameContents row at old_view new_view old new
  pub files : KeepsFiles old new

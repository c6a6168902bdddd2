-- What stays while buffers of a tree's files are written back.
use Rattle.std.specs.Prelude.{◌≡◌, ℕ, ◌+◌, ◌-◌, ◌*◌, ◌≤◌, length}
use Rattle.apex_types.specs.declared.rows.TreeRow.{TreeRow}
use Rattle.apex_model.specs.Image.{tree_of_region}
use Rattle.block_pool.specs.Lists.{list_at}
use Rattle.present_files.specs.Present.{free_buffers}
use Rattle.rig_core.specs.Bytes.{SameElsewhere}
use Rattle.rig_core.specs.Leaves.{LeavesElsewhere}
use Rattle.rig_core.specs.Outside.{Outside, Later, MakesAtMost}
use Rattle.tree_region.specs.InStep.{slots_long}
use Rattle.tree_region.specs.Region.{region_at}
use Rattle.tree_state.specs.State.{IsState}
use Rattle.tree_state.specs.Stored.{KeepsFiles, SameContents, durable_tree}
use Rattle.tree_state.specs.declared.state.TreeState.{TreeState}
use Rattle.present_files.specs.Durable.{KeepsDurable, KeepsTree}

-- how many buffers hold blocks of a file
abbrev pub held_count : TreeState → ℕ → ℕ
held_count s f = length (list_at s.present.pool.lists (f + 1))

-- Some buffers were written to data blocks of their own and became free, the last one perhaps with a fault. At every moment the region stands for
-- the same tree, what is durable stays, all contents stay, and no data block changes outside those of the region.
pub record WritesBack (tells_view : Type 0) (row : TreeRow) (at : ℕ) (o e : Outside) (old new : TreeState) : Type 0 where
  pub any_moment : KeepsTree row at o e
  pub tree : tells_view → tree_of_region row (region_at row at e.view) ≡ tree_of_region row (region_at row at o.view)
  pub state : IsState tells_view row at e new
  pub kept : KeepsDurable old.kept new.kept
  pub files : KeepsFiles old new
  pub durable : tells_view → durable_tree row at e.view new ≡ durable_tree row at o.view old
  pub contents : tells_view → SameContents row at o.view e.view old new
  -- no file has more buffers, and no fewer are free
  pub fewer : (f : ℕ) → held_count new f ≤ held_count old f
  pub more : free_buffers old.present ≤ free_buffers new.present
  pub outside : LeavesElsewhere (at + slots_long row) (1024 * row.quota) o e
  pub outside_view : tells_view → SameElsewhere (at + slots_long row) (1024 * row.quota) o.view e.view
  pub later : Later o e
  -- one write at most for each buffer that wasn't free
  pub made : MakesAtMost (row.dirty - free_buffers old.present) 0 0 o e

-- one write at most was made for each buffer that became free
abbrev pub MakesPaid : Outside → Outside → TreeState → TreeState → Type 0
MakesPaid o e old new = MakesAtMost (free_buffers new.present - free_buffers old.present) 0 0 o e

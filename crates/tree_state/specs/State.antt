-- When the region of a tree is in step with all that is kept of it in memory.
use Rattle.std.specs.Prelude.{◌≡◌, ℕ, ◌*◌, ◌≤◌, List, length, replicate, None}
use Rattle.apex_types.specs.declared.rows.TreeRow.{TreeRow}
use Rattle.apex_model.specs.Files.{blocks_of}
use Rattle.apex_model.specs.Layout.{body_blocks}
use Rattle.block_pool.specs.Lists.{node_count}
use Rattle.block_quota.specs.Quota.{ChargesValue, charge_of, total}
use Rattle.file_tree.specs.Entries.{TreeValue, slot}
use Rattle.tree_region.specs.OwnedRows.{AreApart, AreNamedUsed}
use Rattle.present_files.specs.Present.{IsPresent, size_in, changes_in}
use Rattle.present_files.specs.declared.present.PresentSize.{PresentSize}
use Rattle.rig_core.specs.Outside.{Outside}
use Rattle.tree_region.specs.InStep.{InStep}
use Rattle.tree_region.specs.GoodNumbers.{size_blocks}
use Rattle.tree_state.specs.Numbers.{AreZeroBehind}
use Rattle.tree_state.specs.declared.state.TreeState.{TreeState}

-- Each file is charged for its durable and its present content at least, and all together for at most the quota.
pub record AreCharged (row : TreeRow) (v : TreeValue) (sizes : List PresentSize) (charges : ChargesValue) : Type 0 where
  pub quota : charges.quota ≡ row.quota
  pub files : length charges.by_file ≡ row.files
  pub total_within : total charges ≤ row.quota
  pub durable : (f : ℕ) → size_blocks v f ≤ charge_of charges f
  pub present : (f : ℕ) → blocks_of (size_in sizes f) ≤ charge_of charges f

-- An entry that no file uses has no bytes, was never changed, and is charged for nothing.
pub record AreUnusedEmpty (v : TreeValue) (sizes : List PresentSize) (charges : ChargesValue) : Type 0 where
  pub size : (f : ℕ) → slot v.files f ≡ None → size_in sizes f ≡ 0
  pub changes : (f : ℕ) → slot v.files f ≡ None → changes_in sizes f ≡ 0
  pub charge : (f : ℕ) → slot v.files f ≡ None → charge_of charges f ≡ 0

-- The region is in step with all that is kept of it.
pub record IsState (tells_view : Type 0) (row : TreeRow) (at : ℕ) (o : Outside) (s : TreeState) : Type 0 where
  -- what is durable is so on the device, at every moment from now on
  pub in_step : InStep tells_view row at o s.kept
  -- sizes, numbers and buffers of the present contents are those of files of this tree
  pub present : IsPresent row s.present
  -- a block that a present number names is marked as used
  pub used : AreNamedUsed s.kept.table.used s.present.numbers.items
  -- a present number that isn't the durable one at its place stands nowhere else
  pub apart : AreApart s.kept.table.files.items s.present.numbers.items
  pub zeros : AreZeroBehind s.kept.tree s.kept.table.files.items
  pub charged : AreCharged row s.kept.tree s.present.sizes.items s.charges
  pub unused : AreUnusedEmpty s.kept.tree s.present.sizes.items s.charges
  -- the pool has as many buffers as the tree may have unwritten blocks
  pub buffers : node_count s.present.pool.lists ≡ row.dirty
  pub body : length s.body.items ≡ 512 * body_blocks row
  pub tail : s.tail.items ≡ replicate 32768 0

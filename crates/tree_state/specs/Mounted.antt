-- What is present of a stored tree, and what its files are charged for, once it is mounted.
use Rattle.std.specs.Prelude.{◌≡◌, ℕ, ◌+◌, ◌*◌, ◌<◌, ◌≤◌, List, length, replicate, None, slice_index_or}
use Rattle.apex_types.specs.declared.rows.TreeRow.{TreeRow}
use Rattle.apex_model.specs.Layout.{body_blocks}
use Rattle.block_pool.specs.Buffers.{all_free}
use Rattle.block_pool.specs.Lists.{node_count}
use Rattle.block_quota.specs.Quota.{ChargesValue, charge_of, total}
use Rattle.file_tree.specs.Entries.{TreeValue, slot, stored_of}
use Rattle.present_files.specs.Present.{never_changed}
use Rattle.present_files.specs.declared.present.Present.{Present}
use Rattle.present_files.specs.declared.present.PresentSize.{PresentSize}
use Rattle.tree_region.specs.GoodNumbers.{size_blocks}
use Rattle.tree_region.specs.declared.region.TreeRegion.{TreeRegion}
use Rattle.tree_state.specs.declared.state.TreeState.{TreeState}

-- the durable size and change count of an entry
abbrev pub stored_size : TreeValue → ℕ → PresentSize
stored_size v f = record { size = (stored_of v f).0; changes = (stored_of v f).1 }

-- These are the durable sizes and change counts of so many files.
pub record AreStoredSizes (v : TreeValue) (count : ℕ) (sizes : List PresentSize) : Type 0 where
  pub many : length sizes ≡ count
  pub stored : (f : ℕ) → f < count → slice_index_or sizes f never_changed ≡ stored_size v f
  -- and these hold of every tree
  pub short : (f : ℕ) → f < count → (stored_of v f).0 ≤ 1048576
  pub counted : (f : ℕ) → f < count → (stored_of v f).1 ≤ 4294967295
  pub unused : (f : ℕ) → f < count → slot v.files f ≡ None → stored_of v f ≡ (0, 0)

-- So many files are charged for their durable contents, and the others for nothing.
pub record AreStoredCharges (row : TreeRow) (v : TreeValue) (count : ℕ) (charges : ChargesValue) : Type 0 where
  pub quota : charges.quota ≡ row.quota
  pub files : length charges.by_file ≡ row.files
  pub before : (f : ℕ) → f < count → charge_of charges f ≡ size_blocks v f
  pub behind : (f : ℕ) → count ≤ f → charge_of charges f ≡ 0

-- What is present of each file is what is durable of it, and all buffers are free.
pub record IsPresentOf (row : TreeRow) (kept : TreeRegion) (present : Present) : Type 0 where
  pub sizes : AreStoredSizes kept.tree row.files present.sizes.items
  pub numbers : present.numbers.items ≡ kept.table.files.items
  pub pool : present.pool ≡ all_free row.dirty row.files
  pub buffers : node_count present.pool.lists ≡ row.dirty
  pub lists : length present.pool.lists ≡ row.files + 1

-- So is all that is kept beside what is durable.
pub record IsFresh (row : TreeRow) (state : TreeState) : Type 0 where
  pub present : IsPresentOf row state.kept state.present
  pub charges : AreStoredCharges row state.kept.tree row.files state.charges
  pub within : total state.charges ≤ row.quota
  pub body : length state.body.items ≡ 512 * body_blocks row
  pub tail : state.tail.items ≡ replicate 32768 0
  -- and this holds of every tree
  pub stored : length state.kept.tree.stored ≡ length state.kept.tree.files

-- When a tree's region is in step with what is kept of it, and which trees its images stand for.
use Rattle.std.specs.Prelude.{◌≡◌, ◌≢◌, ℕ, ◌+◌, ◌-◌, ◌*◌, ◌<◌, List, [], Some, slice_index_or}
use Rattle.apex_types.specs.declared.rows.TreeRow.{TreeRow}
use Rattle.apex_model.specs.Image.{data_block, tree_of_region}
use Rattle.apex_model.specs.Layout.{slot_blocks}
use Rattle.rig_core.specs.Leaves.{IsSettled}
use Rattle.rig_core.specs.Outside.{Outside, AllNow}
use Rattle.meta_journal.specs.Journal as journal
use Rattle.file_tree.specs.Entries.{TreeValue}
use Rattle.tree_region.specs.GoodNumbers.{HasGoodNumbers}
use Rattle.tree_region.specs.Numbers.{HasNumbers}
use Rattle.tree_region.specs.Region.{HasLimits, IsWithin, StandsFor, tree_over, region_at, data_of}
use Rattle.tree_region.specs.declared.region.TreeRegion.{TreeRegion}

-- the data blocks of these numbers are the same in two regions' data blocks
abbrev pub SameNamed : List (List ℕ) → List ℕ → List ℕ → Type 0
SameNamed numbers old new = (f k : ℕ) → data_block new (slice_index_or (slice_index_or numbers f []) k 0) ≡ data_block old (slice_index_or (slice_index_or numbers f []) k 0)

-- the data blocks of the region that begins at this byte of an image
abbrev pub data_at : TreeRow → ℕ → List ℕ → List ℕ
data_at row at image = data_of row (region_at row at image)

-- the data blocks of these numbers are settled: each image that a cut may leave now has them as the view has them
abbrev pub AreNamedSettled : TreeRow → ℕ → List (List ℕ) → Outside → Type 0
AreNamedSettled row at numbers o = AllNow (λ image. SameNamed numbers (data_at row at o.view) (data_at row at image)) o

-- the bytes of both slots with their journals
abbrev pub slots_long : TreeRow → ℕ
slots_long row = 512 * (2 * slot_blocks row)

-- The region is in step with what is kept of it. Of data blocks that aren't named nothing is said.
pub record InStep (tells_view : Type 0) (row : TreeRow) (at : ℕ) (o : Outside) (kept : TreeRegion) : Type 0 where
  pub within : IsWithin row at kept
  pub limits : HasLimits row kept
  -- the numbers of its files are those of used blocks
  pub numbers : HasNumbers row kept.table
  -- and as many as their sizes have are good ones
  pub good : HasGoodNumbers row kept.tree kept.table.files.items
  -- what is kept stands for the view
  pub stands : tells_view → StandsFor row at o.view kept
  -- both slots with their journals are settled, and so are the named data blocks
  pub settled : IsSettled at (slots_long row) o
  pub named : AreNamedSettled row at kept.table.files.items o
  -- each image that a cut may leave now stands for the same tree
  pub same_tree : AllNow (λ image. tree_of_region row (region_at row at image) ≡ tree_of_region row (region_at row at o.view)) o

-- the newest slot's journal takes one more record: it is of the version that is written
abbrev pub HasRoom : TreeRegion → Type 0
HasRoom kept = (kept.version ≡ 2) × (0 < journal.room_of kept.journal)

-- the region of an image stands for the tree of these names and block numbers over these data blocks
abbrev pub IsTree : TreeRow → ℕ → List ℕ → List (List ℕ) → TreeValue → List ℕ → Type 0
IsTree row at blocks numbers v image = tree_of_region row (region_at row at image) ≡ Some (tree_over blocks v numbers)

-- none of these numbers is this one
abbrev pub AreOthers : ℕ → List (List ℕ) → Type 0
AreOthers number numbers = (f k : ℕ) → slice_index_or (slice_index_or numbers f []) k 0 ≢ number

-- the first byte of the data block of a number
abbrev pub block_place : TreeRow → ℕ → ℕ → ℕ
block_place row at number = at + slots_long row + 512 * (number - 1)

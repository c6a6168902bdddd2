-- What a formatted image has in each of its places. Of the places that are not named here nothing is said.
use Rattle.std.specs.Prelude.{◌≡◌, ◌≢◌, ℕ, ◌+◌, ◌*◌, ◌<◌, ◌≤◌, List, length, Some, slice_get, slice_index}
use Rattle.apex_types.specs.Rows.{Rows}
use Rattle.apex_types.specs.declared.rows.LogbookRow.{LogbookRow}
use Rattle.apex_types.specs.declared.rows.TreeRow.{TreeRow}
use Rattle.apex_model.specs.Image.{wanted_superblock}
use Rattle.apex_model.specs.Layout.{body_blocks, slot_blocks, tree_start, logbook_start, layout_blocks}

-- the gate whose block begins at this place is open
abbrev pub IsOpenAt : ℕ → List ℕ → Type 0
IsOpenAt gate image = slice_index image gate ≡ 0xA5

-- the gate whose block begins at this place is closed
abbrev pub IsClosedAt : ℕ → List ℕ → Type 0
IsClosedAt gate image = slice_index image gate ≢ 0xA5

-- the places from one up to another have zeros
abbrev pub AreZeros : ℕ → ℕ → List ℕ → Type 0
AreZeros from to image = (k : ℕ) → from ≤ k → k < to → slice_index image k ≡ 0

-- The region of a tree that begins at a place: slot 0 is open with a body of the second version that has no entry and sequence number 0.
-- No gate of its journal is open, and slot 1 is closed.
pub record IsEmptyTree (row : TreeRow) (first : ℕ) (image : List ℕ) : Type 0 where
  pub opened : IsOpenAt first image
  pub sequence : slice_index image (first + 512) ≡ 0
  pub version : slice_index image (first + 513) ≡ 2
  pub body : AreZeros (first + 514) (first + 512 * (1 + body_blocks row)) image
  pub journal : (record_number : ℕ) → record_number < 32 → IsClosedAt (first + 512 * (1 + body_blocks row) + 1024 * record_number) image
  pub other : IsClosedAt (first + 512 * slot_blocks row) image

-- The region of a logbook that begins at a place: header 0 is open, with sequence number 0 and cleared number 0.
-- Header 1 and all places of messages are closed.
pub record IsEmptyLogbook (row : LogbookRow) (first : ℕ) (image : List ℕ) : Type 0 where
  pub opened : IsOpenAt first image
  pub header : AreZeros (first + 512) (first + 1024) image
  pub other : IsClosedAt (first + 1024) image
  pub places : (place : ℕ) → place ≤ row.logged → IsClosedAt (first + 512 * (4 + 2 * place)) image

-- The image of a table in which nothing was ever stored: the superblock has the table, and each region is empty.
pub record IsEmptyImage (table : Rows) (image : List ℕ) : Type 0 where
  pub long : 512 * layout_blocks table ≤ length image
  pub opened : IsOpenAt 0 image
  pub superblock : (k : ℕ) → k < length (wanted_superblock table) → slice_index image (512 + k) ≡ slice_index (wanted_superblock table) k
  pub trees : (tree : ℕ) (row : TreeRow) → slice_get table.trees tree ≡ Some row → IsEmptyTree row (512 * tree_start table tree) image
  pub logbooks : (logbook : ℕ) (row : LogbookRow) → slice_get table.logbooks logbook ≡ Some row → IsEmptyLogbook row (512 * logbook_start table logbook) image

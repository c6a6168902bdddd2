-- What a format leaves, step by step.
use Rattle.std.specs.Prelude.{◌≡◌, ◌⊎◌, ℕ, ◌+◌, ◌*◌, ◌<◌, ◌≤◌, List, length, Some, Ok, Err, slice_get, slice_index}
use Rattle.rig_core.specs.Bytes.{byte, SameElsewhere, SameWithin}
use Rattle.rig_core.specs.Causes.{Rose}
use Rattle.rig_core.specs.Outside.{Outside, AllNow, Later}
use Rattle.rig_core.specs.Leaves.{Leaves, LeavesElsewhere}
use Rattle.apex_types.specs.Rows.{Rows}
use Rattle.apex_types.specs.declared.rows.LogbookRow.{LogbookRow}
use Rattle.apex_types.specs.declared.rows.TreeRow.{TreeRow}
use Rattle.apex_model.specs.Durable.{empty_durable}
use Rattle.apex_model.specs.Image.{state_of, not_formatted, wanted_superblock}
use Rattle.apex_model.specs.Layout.{slot_blocks, logbook_blocks, tree_start, logbook_start, layout_blocks}
use Rattle.image_laws.specs.EmptyImage.{IsOpenAt, AreZeros}
use Rattle.recover_scan.specs.declared.errors.FormatError.{FormatError}
use Rattle.recover_scan.specs.declared.errors.FormatError.TheVariants.{TooSmall, Device, Memory}

-- Only n bytes from a place on change. Nothing is told, and a cut leaves the other bytes as a cut at the start would have.
pub record ChangesOnly (tells_view : Type 0) (at n : ℕ) (old new : Outside) : Type 0 where
  pub later : Later old new
  pub cuts : LeavesElsewhere at n old new
  pub view : tells_view → SameElsewhere at n old.view new.view

-- ---- the bytes that a format writes

-- the two slots of a tree that begins at a place: the gate of slot 0 is open, its body has version 2, and all else is zeros
pub record IsFreshTree (row : TreeRow) (first : ℕ) (image : List ℕ) : Type 0 where
  pub opened : IsOpenAt first image
  pub version : slice_index image (first + 513) ≡ 2
  pub front : AreZeros (first + 1) (first + 513) image
  pub back : AreZeros (first + 514) (first + 1024 * slot_blocks row) image

-- a logbook that begins at a place: the gate of header 0 is open, and all else is zeros
pub record IsFreshLogbook (row : LogbookRow) (first : ℕ) (image : List ℕ) : Type 0 where
  pub opened : IsOpenAt first image
  pub back : AreZeros (first + 1) (first + 512 * logbook_blocks row) image

-- the slots of each tree are as a format writes them
abbrev pub HasEmptyTrees : Rows → List ℕ → Type 0
HasEmptyTrees table image = (tree : ℕ) (row : TreeRow) → slice_get table.trees tree ≡ Some row → IsFreshTree row (512 * tree_start table tree) image

-- each logbook is as a format writes it
abbrev pub HasEmptyLogbooks : Rows → List ℕ → Type 0
HasEmptyLogbooks table image = (logbook : ℕ) (row : LogbookRow) → slice_get table.logbooks logbook ≡ Some row → IsFreshLogbook row (512 * logbook_start table logbook) image

-- the superblock has these bytes behind its gate, and zeros up to its end
abbrev pub HasSuperblock : List ℕ → List ℕ → Type 0
HasSuperblock bytes image = (k : ℕ) → k < 16384 → slice_index image (512 + k) ≡ slice_index bytes k

-- all that a format writes but the superblock's gate; the table's bytes have room in the superblock
pub record HasEmptyParts (table : Rows) (image : List ℕ) : Type 0 where
  pub short : length (wanted_superblock table) ≤ 16384
  pub superblock : HasSuperblock (wanted_superblock table) image
  pub trees : HasEmptyTrees table image
  pub logbooks : HasEmptyLogbooks table image

-- ---- the bytes that it leaves

-- What a format doesn't write is as it was: the block of the superblock's gate behind its first byte, the data blocks of each tree, and all behind the last block of the table's image.
pub record KeepsRest (table : Rows) (old image : List ℕ) : Type 0 where
  pub long : length image ≡ length old
  pub gate : (k : ℕ) → 0 < k → k < 512 → byte image k ≡ byte old k
  pub data_blocks : (tree : ℕ) (row : TreeRow) → slice_get table.trees tree ≡ Some row → SameWithin (512 * tree_start table tree + 1024 * slot_blocks row) (1024 * row.quota) old image
  pub behind : (k : ℕ) → 512 * layout_blocks table ≤ k → byte image k ≡ byte old k

-- Calls that write none of that: where it is as in some image before, it is so in what a cut leaves at every moment, and in what reads give.
pub record SparesRest (tells_view : Type 0) (table : Rows) (old new : Outside) : Type 0 where
  pub cuts : (base : List ℕ) → AllNow (KeepsRest table base) old → Leaves (KeepsRest table base) old new
  pub view : tells_view → (base : List ℕ) → KeepsRest table base old.view → KeepsRest table base new.view

-- Each byte of a formatted image: the superblock's gate is open, the superblock and the regions are as a format writes them, and the rest is as it was.
pub record IsWholeEmpty (table : Rows) (old image : List ℕ) : Type 0 where
  pub opened : IsOpenAt 0 image
  pub parts : HasEmptyParts table image
  pub rest : KeepsRest table old image

-- the image of the state in which nothing was ever stored
abbrev pub IsFormatted : Rows → List ℕ → Type 0
IsFormatted table image = state_of table image ≡ Ok (empty_durable table)

-- the image before, an image that is not formatted, or the one in which nothing was ever stored
abbrev pub OldOrFormatted : Rows → List ℕ → List ℕ → Type 0
OldOrFormatted table old image = (image ≡ old) ⊎ ((state_of table image ≡ Err not_formatted) ⊎ IsFormatted table image)

-- Why a format failed: the device has fewer bytes than are wanted, a count of its faults rose, or no memory was left. But for a fault it is untouched.
abbrev pub FailsFor : ℕ → Outside → Outside → Type 0 → FormatError → Type 0
FailsFor needed old new untouched (TooSmall wanted) = (old.size < needed) × (wanted ≡ needed) × untouched
FailsFor needed old new untouched Device = Rose old.read_faults new.read_faults ⊎ Rose old.write_faults new.write_faults
FailsFor needed old new untouched Memory = untouched

-- Whether an image is one of a table, and why it isn't mounted.
use Rattle.std.specs.Prelude.{◌≡◌, ℕ, ◌*◌, ◌<◌, ◌≤◌, true, List, length, None, Err}
use Rattle.apex_types.specs.Rows.{Rows}
use Rattle.apex_model.specs.Image.{state_of, is_open, blocks_at, first_difference, wanted_superblock, too_small, not_formatted, other_table, bad_tree, bad_logbook}
use Rattle.apex_model.specs.Layout.{layout_blocks}
use Rattle.recover_scan.specs.declared.errors.MountError.{MountError}
use Rattle.recover_scan.specs.declared.errors.MountError.TheVariants.{TooSmall, NotFormatted, OtherTable, BadTree, BadLogbook, Device, Memory}

-- The image is large enough for the table, it is formatted, and its superblock has this table's bytes.
pub record IsImageOf (table : Rows) (image : List ℕ) : Type 0 where
  pub room : 512 * layout_blocks table ≤ length image
  pub formatted : is_open image 0 ≡ true
  pub same : first_difference 0 (wanted_superblock table) (blocks_at image 1 32) ≡ None

-- A refusal is the first reason for which the image stands for no state; a fault of the device and want of memory say nothing of it.
abbrev pub IsRefusedFor : Rows → List ℕ → MountError → Type 0
IsRefusedFor table image (TooSmall wanted) = state_of table image ≡ Err (too_small wanted)
IsRefusedFor table image NotFormatted = state_of table image ≡ Err not_formatted
IsRefusedFor table image (OtherTable place) = state_of table image ≡ Err (other_table place)
IsRefusedFor table image (BadTree tree) = state_of table image ≡ Err (bad_tree tree)
IsRefusedFor table image (BadLogbook logbook) = state_of table image ≡ Err (bad_logbook logbook)
IsRefusedFor table image Device = Unit {0}
IsRefusedFor table image Memory = Unit {0}

-- That a device of so many bytes is too small is told only where it is, with the bytes that the table wants.
abbrev pub IsSmallFor : Rows → ℕ → MountError → Type 0
IsSmallFor table size error = (wanted : ℕ) → error ≡ TooSmall wanted → (size < wanted) × (wanted ≡ 512 * layout_blocks table)

-- a fault of the device, or want of memory
abbrev pub IsFaultOrMemory : MountError → Type 0
IsFaultOrMemory (TooSmall wanted) = ⊥
IsFaultOrMemory NotFormatted = ⊥
IsFaultOrMemory (OtherTable place) = ⊥
IsFaultOrMemory (BadTree tree) = ⊥
IsFaultOrMemory (BadLogbook logbook) = ⊥
IsFaultOrMemory Device = Unit {0}
IsFaultOrMemory Memory = Unit {0}

-- What is proved of images: which of them stand for the empty state, and which for none, and which bytes do not matter.
use Rattle.std.specs.Prelude.{◌≡◌, ℕ, ◌*◌, ◌<◌, ◌≤◌, List, length, slice_index, Ok, Err}
use Rattle.apex_types.specs.Rows.{Rows}
use Rattle.apex_types.specs.declared.rows.TreeRow.{TreeRow}
use Rattle.apex_model.specs.Accepted.{IsAccepted}
use Rattle.apex_model.specs.Durable.{empty_durable}
use Rattle.apex_model.specs.Image.{state_of, tree_of_region, not_formatted, wanted_superblock}
use Rattle.apex_model.specs.Layout.{layout_blocks, slot_blocks}
use Rattle.image_laws.specs.EmptyImage.{IsClosedAt, IsEmptyImage}
use Rattle.image_laws.specs.NamedBlocks.{SameButUnnamed, named_blocks}

-- the bytes of an accepted table have room in the superblock
abbrev pub TableFitsSuperblock : Type 0
TableFitsSuperblock = (table : Rows) → IsAccepted table → length (wanted_superblock table) ≤ 16384

-- a formatted image stands for the state in which nothing was ever stored
abbrev pub EmptyImageIsEmpty : Type 0
EmptyImageIsEmpty = (table : Rows) (image : List ℕ) → IsAccepted table → IsEmptyImage table image → state_of table image ≡ Ok (empty_durable table)

-- a long enough image whose superblock is closed is not formatted
abbrev pub ClosedImageIsUnformatted : Type 0
ClosedImageIsUnformatted = (table : Rows) (image : List ℕ) → 512 * layout_blocks table ≤ length image → IsClosedAt 0 image → state_of table image ≡ Err not_formatted

-- data blocks that the newest body, changed by its leading records, doesn't name, are no part of the tree
abbrev pub UnnamedBlocksDontMatter : Type 0
UnnamedBlocksDontMatter = (row : TreeRow) (old new : List ℕ) → SameButUnnamed row old new → tree_of_region row new ≡ tree_of_region row old

-- which blocks are named is told by the bytes of the slots
abbrev pub SlotsTellNamedBlocks : Type 0
SlotsTellNamedBlocks = (row : TreeRow) (old new : List ℕ) → length new ≡ length old → ((k : ℕ) → k < 512 * (2 * slot_blocks row) → slice_index new k ≡ slice_index old k)
    → named_blocks row new ≡ named_blocks row old

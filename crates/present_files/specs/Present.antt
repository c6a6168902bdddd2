-- The present contents of a tree's files, over the data blocks of a region and the buffers of a pool.
use Rattle.std.specs.Prelude.{ℕ, ◌≡◌, ◌+◌, ◌*◌, ◌<◌, ◌≤◌, List, [], length, take, IsSome, slice_index_or}
use Rattle.std.specs.List.{flat_map, range_with_len}
use Rattle.apex_types.specs.declared.numbers.FileNode.{FileNode}
use Rattle.apex_types.specs.declared.rows.TreeRow.{TreeRow}
use Rattle.apex_model.specs.Files.{Content, blocks_of}
use Rattle.apex_model.specs.Image.{data_block}
use Rattle.block_pool.specs.Buffers.{Buffers, node_of}
use Rattle.tree_region.specs.Numbers.{most_blocks}
use Rattle.present_files.specs.Nodes.{held_or, free_in}
use Rattle.present_files.specs.declared.present.Present.{Present}
use Rattle.present_files.specs.declared.present.PresentSize.{PresentSize}

-- no bytes, and never changed
abbrev pub never_changed : PresentSize
never_changed = record { size = 0; changes = 0 }

-- the bytes of a file, and how often it was changed
abbrev pub size_in : List PresentSize → ℕ → ℕ
size_in sizes f = (slice_index_or sizes f never_changed).size

abbrev pub changes_in : List PresentSize → ℕ → ℕ
changes_in sizes f = (slice_index_or sizes f never_changed).changes

-- the number of a file's block
abbrev pub number_in : List (List ℕ) → ℕ → ℕ → ℕ
number_in numbers f k = slice_index_or (slice_index_or numbers f []) k 0

-- how many numbers a file's row has
abbrev pub row_length : List (List ℕ) → ℕ → ℕ
row_length numbers f = length (slice_index_or numbers f [])

-- the bytes of a block of a file, which a buffer holds or the data blocks do
abbrev pub block_in : List ℕ → List (List ℕ) → Buffers → FileNode → ℕ → List ℕ
block_in blocks numbers b f k = held_or b (data_block blocks (number_in numbers f.0 k)) f k

-- the bytes of all blocks that a file's row has room for, one behind the other
unfoldable pub room_in : List ℕ → List (List ℕ) → Buffers → FileNode → List ℕ
room_in blocks numbers b f = flat_map (block_in blocks numbers b f) (range_with_len 0 (row_length numbers f.0))

-- What holds of sizes, block numbers and buffers of the files of a tree.
pub record ArePresent (row : TreeRow) (sizes : List PresentSize) (numbers : List (List ℕ)) (b : Buffers) : Type 0 where
  -- there is a size, a row of numbers and a list of buffers for each file, and a list of free buffers
  pub sizes_length : length sizes ≡ row.files
  pub numbers_length : length numbers ≡ row.files
  pub lists : length b.lists ≡ row.files + 1
  -- a row has room for all blocks that a file may have, and each of its numbers is 0 or one of a data block
  pub rooms : (f : ℕ) → f < row.files → row_length numbers f ≡ most_blocks row
  pub within : (f k : ℕ) → number_in numbers f k ≤ 2 * row.quota
  -- a size is within its limits
  pub fits : (f : ℕ) → f < row.files → blocks_of (size_in sizes f) ≤ most_blocks row
  pub short : (f : ℕ) → f < row.files → size_in sizes f ≤ 1048576
  -- behind a file's last block the numbers are 0, and the block of a node is one of a file
  pub behind : (f k : ℕ) → f < row.files → blocks_of (size_in sizes f) ≤ k → number_in numbers f k ≡ 0
  pub held : (f : FileNode) (k : ℕ) → IsSome (node_of b f k) → (f.0 < row.files) × (k < blocks_of (size_in sizes f.0))

abbrev pub IsPresent : TreeRow → Present → Type 0
IsPresent row p = ArePresent row p.sizes.items p.numbers.items p.pool

-- the bytes of a file, and how often it was changed
abbrev pub size_of : Present → FileNode → ℕ
size_of p f = size_in p.sizes.items f.0

abbrev pub changes_of : Present → FileNode → ℕ
changes_of p f = changes_in p.sizes.items f.0

-- the number of a file's block
abbrev pub number_of : Present → FileNode → ℕ → ℕ
number_of p f k = number_in p.numbers.items f.0 k

-- the bytes of a block of a file, over data blocks
abbrev pub present_block : List ℕ → Present → FileNode → ℕ → List ℕ
present_block blocks p f k = block_in blocks p.numbers.items p.pool f k

-- those of all its blocks, one behind the other
abbrev pub room_bytes : List ℕ → Present → FileNode → List ℕ
room_bytes blocks p f = room_in blocks p.numbers.items p.pool f

-- the present content of a file
abbrev pub content_of : List ℕ → Present → FileNode → Content
content_of blocks p f = take (size_of p f) (room_bytes blocks p f)

-- how many buffers are free
abbrev pub free_buffers : Present → ℕ
free_buffers p = free_in p.pool

-- how many buffers there are
abbrev pub buffer_count : Present → ℕ
buffer_count p = length p.pool.contents

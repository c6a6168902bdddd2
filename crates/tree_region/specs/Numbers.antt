-- The numbers of data blocks in a slot's body: which file has which, and which blocks are used.
use Rattle.std.specs.Prelude.{◌≡◌, ℕ, ◌+◌, ◌-◌, ◌*◌, ◌<◌, ◌≤◌, ◌==◌, ◌++◌, min, replicate, Bool, true, false, List, [], ◌∷◌, length, take, drop, map, Option, Some, None, slice_index_or}
use Rattle.std.specs.List.{list_any, range_with_len}
use Rattle.apex_types.specs.declared.fields.FileEntryField.{FileEntryField}
use Rattle.apex_model.specs.Fields.{entry_of_bytes}
use Rattle.apex_model.specs.Files.{blocks_of}
use Rattle.apex_types.specs.declared.rows.TreeRow.{TreeRow}
use Rattle.apex_model.specs.Image.{all_answers, entry_bytes, block_number, size_of_field, are_distinct, has_good_blocks}
use Rattle.block_quota.specs.Blocks.{is_used}
use Rattle.tree_region.specs.declared.table.BlockTable.{BlockTable}

-- the entries of so many files in a body of a version, if each is spelled
abbrev pub fields_in : ℕ → List ℕ → ℕ → Option (List FileEntryField)
fields_in version body files = all_answers (λ k. entry_of_bytes version (entry_bytes body k)) (range_with_len 0 files)

-- numbers with 0 behind them, up to so many
abbrev pub with_room : ℕ → List ℕ → List ℕ
with_room room numbers = numbers ++ replicate (room - length numbers) 0

-- the numbers of each file's blocks: as many as its size has, one file behind the other, with so much room for each
unfoldable pub numbers_by_file : ℕ → List FileEntryField → List ℕ → List (List ℕ)
numbers_by_file room [] numbers = []
numbers_by_file room (field ∷ fields) numbers =
    with_room room (take (blocks_of (size_of_field field)) numbers) ∷ numbers_by_file room fields (drop (blocks_of (size_of_field field)) numbers)

-- how many blocks a file may have
abbrev pub most_blocks : TreeRow → ℕ
most_blocks row = min row.quota 2048

-- Of twice as many blocks as a quota has, those are used that these numbers name.
pub record AreUsed (quota : ℕ) (numbers : List ℕ) (used : List Bool) : Type 0 where
  pub long : length used ≡ 2 * quota
  pub named : (n : ℕ) → 1 ≤ n → n ≤ 2 * quota → is_used used n ≡ list_any (λ other. other == n) numbers

-- the used blocks, where no number but 0 stands twice
abbrev pub AreMarked : ℕ → List ℕ → Option (List Bool) → Type 0
AreMarked quota numbers None = are_distinct numbers ≡ false
AreMarked quota numbers (Some used) = (are_distinct numbers ≡ true) × AreUsed quota numbers used

-- the same, where all is good that is spelled behind the entries
abbrev pub AreGoodBlocks : TreeRow → List FileEntryField → List ℕ → List ℕ → Option (List Bool) → Type 0
AreGoodBlocks row fields numbers rest None = has_good_blocks row fields numbers rest ≡ false
AreGoodBlocks row fields numbers rest (Some used) = (has_good_blocks row fields numbers rest ≡ true) × AreUsed row.quota numbers used

-- the numbers of data blocks in a body
abbrev pub numbers_in : TreeRow → List ℕ → List ℕ
numbers_in row body = map (block_number body (row.files + row.directories)) (range_with_len 0 row.quota)

-- what stands behind them
abbrev pub rest_of : TreeRow → List ℕ → List ℕ
rest_of row body = drop (64 + 128 * (row.files + row.directories) + 4 * row.quota) body

-- Files that a body of a version spells have these block numbers, all good.
pub record HasTable (version : ℕ) (row : TreeRow) (body : List ℕ) (table : BlockTable) : Type 0 where
  pub fields : List FileEntryField
  pub spelled : fields_in version body row.files ≡ Some fields
  pub good : has_good_blocks row fields (numbers_in row body) (rest_of row body) ≡ true
  pub files : table.files.items ≡ numbers_by_file (most_blocks row) fields (numbers_in row body)
  pub used : AreUsed row.quota (numbers_in row body) table.used

-- Files aren't spelled, or their block numbers aren't good.
pub record HasNoTable (version : ℕ) (row : TreeRow) (body : List ℕ) : Type 0 where
  pub bad : (fields : List FileEntryField) → fields_in version body row.files ≡ Some fields → has_good_blocks row fields (numbers_in row body) (rest_of row body) ≡ false

abbrev pub IsTableOf : ℕ → TreeRow → List ℕ → Option BlockTable → Type 0
IsTableOf version row body None = HasNoTable version row body
IsTableOf version row body (Some table) = HasTable version row body table

-- The table has a list for each file, with room for all blocks that it may have.
pub record HasRooms (row : TreeRow) (table : BlockTable) : Type 0 where
  pub files : length table.files.items ≡ row.files
  pub rooms : (f : ℕ) → f < row.files → length (slice_index_or table.files.items f []) ≡ most_blocks row

-- Each number in the table is 0 or one of a block, and its block is used.
pub record HasNumbers (row : TreeRow) (table : BlockTable) : Type 0 where
  pub marks : length table.used ≡ 2 * row.quota
  pub within : (f k : ℕ) → slice_index_or (slice_index_or table.files.items f []) k 0 ≤ 2 * row.quota
  pub numbers : (f k : ℕ) → 1 ≤ slice_index_or (slice_index_or table.files.items f []) k 0 → is_used table.used (slice_index_or (slice_index_or table.files.items f []) k 0) ≡ true

-- Which data blocks the newest body of a tree's region names, once the records that lead its journal are replayed.
use Rattle.std.specs.Prelude.{◌≡◌, ◌≢◌, ℕ, ◌+◌, ◌-◌, ◌*◌, ◌<◌, List, [], ◌∷◌, length, take, drop, map, flat_map, if◌then◌else◌, Option, Some, None, option_map, slice_index, Contains}
use Rattle.std.specs.List.{range_with_len}
use Rattle.apex_types.specs.declared.fields.FileEntryField.{FileEntryField}
use Rattle.apex_types.specs.declared.fields.FileEntryField.TheVariants.{Unused, Used}
use Rattle.apex_types.specs.declared.rows.TreeRow.{TreeRow}
use Rattle.apex_model.specs.Fields.{entry_of_bytes, header_of}
use Rattle.apex_model.specs.Files.{blocks_of}
use Rattle.apex_model.specs.Image.{Entry, Entries, all_answers, directory_entry, entry_bytes, block_number, has_good_blocks, blocks_at, leading_records, replayed, newest, slot_at}
use Rattle.apex_model.specs.Layout.{body_blocks, slot_blocks}

-- the entries of files, where in the place of a content stands its size, and behind it the numbers of its blocks
abbrev pub listed_files : List ℕ → List FileEntryField → List (Option Entry)
listed_files numbers [] = []
listed_files numbers (Unused ∷ fields) = None ∷ listed_files numbers fields
listed_files numbers (Used name parent size changes ∷ fields) =
    Some (record { name = name; parent = parent.0; stored = record { content = size ∷ take (blocks_of size) numbers; changes = changes } })
    ∷ listed_files (drop (blocks_of size) numbers) fields

-- the entries that fields of a body make, so listed
abbrev pub listed_of_fields : TreeRow → List ℕ → List ℕ → List FileEntryField → List FileEntryField → Option Entries
listed_of_fields row numbers rest files directories =
    if has_good_blocks row files numbers rest
    then option_map (λ entries. record { files = listed_files numbers files; directories = entries }) (all_answers directory_entry directories)
    else None

-- the entries that a body of a version spells, so listed
abbrev pub listed_of_body : ℕ → TreeRow → List ℕ → Option Entries
listed_of_body version row body =
    elim (all_answers (λ k. entry_of_bytes version (entry_bytes body k)) (range_with_len 0 row.files)) [
      | None ↦ None
      | Some files ↦ elim (all_answers (λ k. entry_of_bytes version (entry_bytes body k)) (range_with_len row.files row.directories)) [
        | None ↦ None
        | Some directories ↦ listed_of_fields row
            (map (block_number body (row.files + row.directories)) (range_with_len 0 row.quota))
            (drop (64 + 128 * (row.files + row.directories) + 4 * row.quota) body)
            files directories
      ]
    ]

-- the block numbers of an entry: none of a file that a record made
abbrev pub numbers_of_entry : Option Entry → List ℕ
numbers_of_entry None = []
numbers_of_entry (Some entry) = drop 1 entry.stored.content

abbrev pub numbers_of : Option Entries → List ℕ
numbers_of None = []
numbers_of (Some entries) = flat_map numbers_of_entry entries.files

-- the entries of a slot, so listed, after the records that lead its journal
abbrev pub listed_in_version : ℕ → TreeRow → List ℕ → ℕ → Option Entries
listed_in_version version row region gate =
    replayed version (leading_records 32 (blocks_at region (gate + 1 + body_blocks row) 64)) (listed_of_body version row (blocks_at region (gate + 1) (body_blocks row)))

abbrev pub named_in_slot : TreeRow → List ℕ → ℕ → List ℕ
named_in_slot row region gate = elim (header_of (take 64 (blocks_at region (gate + 1) (body_blocks row)))) [ None ↦ [] | Some header ↦ numbers_of (listed_in_version header.1 row region gate) ]

-- the numbers of the data blocks of the files that a region's newest slot has: 0 stands for zeros, and n for data block n - 1
unfoldable pub named_blocks : TreeRow → List ℕ → List ℕ
named_blocks row region = elim (newest (slot_at region 0) (slot_at region (slot_blocks row))) [ None ↦ [] | Some slot ↦ named_in_slot row region (slot * slot_blocks row) ]

-- the first byte in a region of the data block of a number
abbrev pub data_start : TreeRow → ℕ → ℕ
data_start row n = 512 * (2 * slot_blocks row + (n - 1))

-- The two regions differ at most in data blocks that the newest slot of the first doesn't name.
pub record SameButUnnamed (row : TreeRow) (old new : List ℕ) : Type 0 where
  pub long : length new ≡ length old
  pub slots : (k : ℕ) → k < 512 * (2 * slot_blocks row) → slice_index new k ≡ slice_index old k
  pub named : (n : ℕ) → Contains (named_blocks row old) n → n ≢ 0 → (k : ℕ) → k < 512 → slice_index new (data_start row n + k) ≡ slice_index old (data_start row n + k)

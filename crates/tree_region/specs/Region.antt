-- What is kept of a tree's region once it is mounted, and when it stands for the region.
use Rattle.std.specs.Prelude.{◌≡◌, ℕ, ◌+◌, ◌*◌, ◌<◌, ◌≤◌, ◌==◌, ◌&&◌, nat_lt, true, List, [], length, take, drop, map, Some, slice_index_or, Contains}
use Rattle.apex_types.specs.declared.rows.TreeRow.{TreeRow}
use Rattle.apex_model.specs.Durable.{StoredFile}
use Rattle.apex_model.specs.Fields.{header_of}
use Rattle.apex_model.specs.Image.{Entries, joined, entries_of_body, replayed, tree_of_entries, tree_of_region, has_journal_room}
use Rattle.apex_model.specs.Layout.{body_blocks, slot_blocks, tree_blocks}
use Rattle.apex_model.specs.Trees.{Name, Node, directory, file, Tree}
use Rattle.rig_core.specs.Bytes.{byte, part}
use Rattle.gate_slots.specs.Place.{Place, gate_of, newest_slot}
use Rattle.gate_slots.specs.Slots as slots
use Rattle.meta_journal.specs.Journal as journal
use Rattle.meta_journal.specs.Leading.{records}
use Rattle.file_tree.specs.Entries.{TreeValue, stored_of}
use Rattle.block_quota.specs.Blocks.{is_used}
use Rattle.image_laws.specs.NamedBlocks.{named_blocks}
use Rattle.tree_region.specs.Bodies.{HasEntries}
use Rattle.tree_region.specs.Numbers.{AreUsed, most_blocks, numbers_in}
use Rattle.tree_region.specs.declared.region.TreeRegion.{TreeRegion}

-- the file of an entry: the blocks of its numbers, cut at its size, and its change count
abbrev pub stored_file : List ℕ → TreeValue → List (List ℕ) → ℕ → StoredFile
stored_file blocks v numbers f = record { content = joined blocks (slice_index_or numbers f []) (stored_of v f).0; changes = (stored_of v f).1 }

abbrev pub stored_node : List ℕ → TreeValue → List (List ℕ) → Node ℕ → Node StoredFile
stored_node blocks v numbers directory = directory
stored_node blocks v numbers (file f) = file (stored_file blocks v numbers f)

-- the tree of these names, sizes and change counts, whose files have these blocks
abbrev pub tree_over : List ℕ → TreeValue → List (List ℕ) → Tree StoredFile
tree_over blocks v numbers = map (λ (p : List Name × Node ℕ). let q : List Name × Node StoredFile = (p.0, stored_node blocks v numbers p.1) in q) v.nodes

-- the region of a tree that begins at this byte of an image
abbrev pub region_at : TreeRow → ℕ → List ℕ → List ℕ
region_at row at image = part at (512 * tree_blocks row) image

-- its data blocks
abbrev pub data_of : TreeRow → List ℕ → List ℕ
data_of row region = drop (512 * (2 * slot_blocks row)) region

-- its two slots, each of a gate, a body and a journal
abbrev pub slots_at : TreeRow → ℕ → Place
slots_at row at = record { start = at; body = body_blocks row; tail = 64 }

-- the body and the first byte of the journal of a slot
abbrev pub body_of : TreeRow → ℕ → ℕ → List ℕ → List ℕ
body_of row at slot image = part (gate_of (slots_at row at) slot + 512) (512 * body_blocks row) image

abbrev pub journal_of : TreeRow → ℕ → ℕ → ℕ
journal_of row at slot = gate_of (slots_at row at) slot + 512 + 512 * body_blocks row

-- Over these data blocks a body and the records behind it spell, in a version, these names with their sizes and change counts, and these block numbers.
pub record SpellsOver (row : TreeRow) (body : List ℕ) (recs : List (List ℕ)) (version : ℕ) (v : TreeValue) (numbers : List (List ℕ)) (blocks : List ℕ) : Type 0 where
  pub sequence : ℕ
  pub header : header_of (take 64 body) ≡ Some (sequence, version)
  -- the entries of the body, which make a tree
  pub written : Entries
  pub spelled : entries_of_body version row body blocks ≡ Some written
  pub tree : Tree StoredFile
  pub made : tree_of_entries written ≡ Some tree
  -- those after the records
  pub entries : Entries
  pub changed : replayed version recs (Some written) ≡ Some entries
  pub has : HasEntries blocks v numbers entries

-- They do so whatever the data blocks hold.
abbrev pub Spells : TreeRow → List ℕ → List (List ℕ) → ℕ → TreeValue → List (List ℕ) → Type 0
Spells row body recs version v numbers = (blocks : List ℕ) → length blocks ≡ 1024 * row.quota → SpellsOver row body recs version v numbers blocks

-- What is kept stands for the region that begins at this byte of an image.
pub record StandsFor (row : TreeRow) (at : ℕ) (image : List ℕ) (kept : TreeRegion) : Type 0 where
  pub tree : tree_of_region row (region_at row at image) ≡ Some (tree_over (data_of row (region_at row at image)) kept.tree kept.table.files.items)
  -- which slot is newest, and what it spells with its records
  pub newest : ℕ
  pub is_newest : newest_slot (slots_at row at) image ≡ Some newest
  pub spells : Spells row (body_of row at newest image) (records (journal_of row at newest) image) kept.version kept.tree kept.table.files.items
  pub slots : slots.Knows kept.slots image
  -- its version
  pub version : byte image (gate_of (slots_at row at) newest + 513) ≡ kept.version
  -- the leading records of its journal, and whether one more has room
  pub first : journal.first_of kept.journal ≡ journal_of row at newest
  pub held : journal.held_of kept.journal ≡ length (records (journal_of row at newest) image)
  pub room : journal.FindsRoom kept.journal image
  pub known : 0 < journal.room_of kept.journal → journal.Knows kept.journal image
  pub has_room : has_journal_room row (region_at row at image) ≡ ((kept.version == 2) && nat_lt 0 (journal.room_of kept.journal))

-- The slots that are kept stand where the region has them, and the journal is one of theirs.
pub record IsWithin (row : TreeRow) (at : ℕ) (kept : TreeRegion) : Type 0 where
  pub place : slots.place_of kept.slots ≡ slots_at row at
  pub from : at ≤ journal.first_of kept.journal
  pub to : journal.first_of kept.journal + 32768 ≤ at + 512 * (2 * slot_blocks row)
  pub few : (row.files ≤ 255) × (row.directories ≤ 255)

-- What is kept has an entry for each that the row has, and room for all blocks of a file.
pub record HasLimits (row : TreeRow) (kept : TreeRegion) : Type 0 where
  pub files : length kept.tree.files ≡ row.files
  pub directories : length kept.tree.directories ≡ row.directories
  pub table : length kept.table.files.items ≡ row.files
  pub rooms : (f : ℕ) → f < row.files → length (slice_index_or kept.table.files.items f []) ≡ most_blocks row

-- exactly those blocks are used that the newest slot's body names
abbrev pub AreUsedByBody : TreeRow → ℕ → List ℕ → TreeRegion → Type 0
AreUsedByBody row at image kept = (newest : ℕ) → newest_slot (slots_at row at) image ≡ Some newest → AreUsed row.quota (numbers_in row (body_of row at newest image)) kept.table.used

-- each block that the newest slot's body and records name is marked as used
abbrev pub AreNamedMarked : TreeRow → ℕ → List ℕ → TreeRegion → Type 0
AreNamedMarked row at image kept = (n : ℕ) → Contains (named_blocks row (region_at row at image)) n → 1 ≤ n → n ≤ 2 * row.quota → is_used kept.table.used n ≡ true

-- The rows of block numbers that are kept of a tree's region, one for each file, and what becomes of them.
use Rattle.std.specs.Prelude.{◌≡◌, ◌⊎◌, ℕ, ◌*◌, ◌<◌, ◌≤◌, Bool, true, List, [], length, slice_index_or}
use Rattle.apex_types.specs.declared.rows.TreeRow.{TreeRow}
use Rattle.block_quota.specs.Blocks.{is_used}
use Rattle.tree_region.specs.GoodNumbers.{size_blocks}
use Rattle.tree_region.specs.declared.region.TreeRegion.{TreeRegion}

-- Each of these numbers is 0 or one of a data block, and its block is used.
pub record NameUsed (row : TreeRow) (used : List Bool) (numbers : List ℕ) : Type 0 where
  pub within : (k : ℕ) → slice_index_or numbers k 0 ≤ 2 * row.quota
  pub marked : (k : ℕ) → 1 ≤ slice_index_or numbers k 0 → is_used used (slice_index_or numbers k 0) ≡ true

-- the row of a file
abbrev pub row_of : TreeRegion → ℕ → List ℕ
row_of kept f = slice_index_or kept.table.files.items f []

-- the number of a file's block at a place of its content
abbrev pub number_at : TreeRegion → ℕ → ℕ → ℕ
number_at kept f k = slice_index_or (row_of kept f) k 0

-- Of what is kept nothing changes but numbers behind the last block of a file's durable content, and these become 0.
pub record Forgets (old new : TreeRegion) : Type 0 where
  pub slots : new.slots ≡ old.slots
  pub version : new.version ≡ old.version
  pub journal : new.journal ≡ old.journal
  pub tree : new.tree ≡ old.tree
  pub used : new.table.used ≡ old.table.used
  -- there are as many rows, each with as much room
  pub many : length new.table.files.items ≡ length old.table.files.items
  pub rooms : (f : ℕ) → length (row_of new f) ≡ length (row_of old f)
  pub stays : (f k : ℕ) → k < size_blocks old.tree f → number_at new f k ≡ number_at old f k
  pub behind : (f k : ℕ) → size_blocks old.tree f ≤ k → (number_at new f k ≡ number_at old f k) ⊎ (number_at new f k ≡ 0)

-- a row has no number behind the last block of its file's durable content
abbrev pub EndsWithContent : TreeRegion → ℕ → Type 0
EndsWithContent kept f = (k : ℕ) → size_blocks kept.tree f ≤ k → number_at kept f k ≡ 0

-- The numbers of the data blocks of a tree's files, one file behind the other.
use Rattle.std.specs.Prelude.{◌≡◌, ℕ, ◌+◌, ◌*◌, ◌<◌, ◌≤◌, ◌++◌, true, List, [], ◌∷◌, length, take, nat_le, slice_index_or}
use Rattle.std.specs.List.{list_all}
use Rattle.apex_types.specs.declared.rows.TreeRow.{TreeRow}
use Rattle.apex_model.specs.Files.{blocks_of}
use Rattle.apex_model.specs.Image.{are_distinct}
use Rattle.file_tree.specs.Entries.{TreeValue, stored_of}
use Rattle.tree_region.specs.Numbers.{most_blocks}

-- how many data blocks the durable content of a file has
abbrev pub size_blocks : TreeValue → ℕ → ℕ
size_blocks v f = blocks_of (stored_of v f).0

-- the numbers of the files' blocks from a file on: of each file as many as its size has
unfoldable pub numbers_from : TreeValue → ℕ → List (List ℕ) → List ℕ
numbers_from v f [] = []
numbers_from v f (list ∷ lists) = take (size_blocks v f) list ++ numbers_from v (f + 1) lists

-- those of all files
abbrev pub numbers_of_files : TreeValue → List (List ℕ) → List ℕ
numbers_of_files v lists = numbers_from v 0 lists

-- The numbers of the files' blocks are good ones.
pub record HasGoodNumbers (row : TreeRow) (v : TreeValue) (lists : List (List ℕ)) : Type 0 where
  -- there are no more of them than the quota, each at most twice the quota, and none but 0 twice
  pub sum : length (numbers_of_files v lists) ≤ row.quota
  pub within : list_all (λ n. nat_le n (2 * row.quota)) (numbers_of_files v lists) ≡ true
  pub distinct : are_distinct (numbers_of_files v lists) ≡ true
  -- each file's list has room for all blocks that a file may have, and its size has no more
  pub rooms : (f : ℕ) → f < row.files → length (slice_index_or lists f []) ≡ most_blocks row
  pub fits : (f : ℕ) → f < row.files → size_blocks v f ≤ most_blocks row

-- The places of an image, as numbers of blocks.
use Rattle.std.specs.Prelude.{ℕ, List, [], ◌∷◌, ◌+◌, map, sum_by}
use Rattle.apex_types.specs.Rows.{Rows}
use Rattle.apex_types.specs.declared.rows.LogbookRow.{LogbookRow}
use Rattle.apex_types.specs.declared.rows.TreeRow.{TreeRow}
use Rattle.apex_model.specs.Layout.{body_blocks, tree_blocks, logbook_blocks, superblock_blocks}

pub record Places : Type 0 where
  -- the first block of each tree's region
  pub trees : List ℕ
  -- the blocks of a body of each tree
  pub bodies : List ℕ
  -- the block behind the last tree
  pub trees_end : ℕ
  -- the first block of each logbook's region
  pub logbooks : List ℕ
  -- the block behind the last region
  pub blocks : ℕ

-- where each row starts, if the first starts here and each takes so many blocks
abbrev pub starts_from : {R : Type 0} → (R → ℕ) → ℕ → List R → List ℕ
starts_from blocks at [] = []
starts_from blocks at (row ∷ rows) = at ∷ starts_from blocks (at + blocks row) rows

-- the places of an image of these trees and logbooks
abbrev pub places_for : List TreeRow → List LogbookRow → Places
places_for trees logbooks = record {
  trees = starts_from tree_blocks superblock_blocks trees;
  bodies = map body_blocks trees;
  trees_end = superblock_blocks + sum_by tree_blocks trees;
  logbooks = starts_from logbook_blocks (superblock_blocks + sum_by tree_blocks trees) logbooks;
  blocks = superblock_blocks + sum_by tree_blocks trees + sum_by logbook_blocks logbooks;
}

-- the places of a table's image
abbrev pub places_of : Rows → Places
places_of table = places_for table.trees table.logbooks

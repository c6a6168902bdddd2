-- Regions as a format writes them: they are empty, and stay so while their bytes do.
use Rattle.std.proofs.Common.{◌≡◌, ℕ, ◌+◌, ◌*◌, ◌<◌, ◌≤◌, List, ◌∙◌, slice_index, arith}
use Rattle.apex_types.specs.Rows.{Rows}
use Rattle.apex_types.specs.declared.rows.LogbookRow.{LogbookRow}
use Rattle.apex_types.specs.declared.rows.TreeRow.{TreeRow}
use Rattle.apex_model.specs.Layout.{slot_blocks, logbook_blocks, tree_start, logbook_start}
use Rattle.rig_core.specs.Bytes.{SameElsewhere}
use Rattle.image_laws.specs.EmptyImage.{IsEmptyTree, IsEmptyLogbook}
use Rattle.image_laws.proofs.EmptyPlaces.{tree_of_zeros, logbook_of_zeros}
use Rattle.recover_scan.specs.Format.{IsFreshTree, IsFreshLogbook, HasEmptyParts}

pub fresh_tree_stays : (row : TreeRow) (first : ℕ) (old new : List ℕ) → ((k : ℕ) → first ≤ k → k < first + 512 * (2 * slot_blocks row) → slice_index new k ≡ slice_index old k)
    → IsFreshTree row first old → IsFreshTree row first new
fresh_tree_stays row first old new same fresh = record {
  opened = same first (omega arith) (omega arith) ∙ fresh.opened;
  version = same (first + 513) (omega arith) (omega arith) ∙ fresh.version;
  front = λ k low high. same k (omega (arith, low)) (omega (arith, high)) ∙ fresh.front k low high;
  back = λ k low high. same k (omega (arith, low)) (omega (arith, high)) ∙ fresh.back k low high;
}

pub fresh_logbook_stays : (row : LogbookRow) (first : ℕ) (old new : List ℕ) → ((k : ℕ) → first ≤ k → k < first + 512 * logbook_blocks row → slice_index new k ≡ slice_index old k)
    → IsFreshLogbook row first old → IsFreshLogbook row first new
fresh_logbook_stays row first old new same fresh = record {
  opened = same first (omega arith) (omega arith) ∙ fresh.opened;
  back = λ k low high. same k (omega (arith, low)) (omega (arith, high)) ∙ fresh.back k low high;
}

pub fresh_tree_empty : (row : TreeRow) (first : ℕ) (image : List ℕ) → IsFreshTree row first image → IsEmptyTree row first image
fresh_tree_empty row first image fresh = tree_of_zeros row first image fresh.opened fresh.version fresh.front (λ k low high. fresh.back k low (omega (arith, high)))

pub fresh_logbook_empty : (row : LogbookRow) (first : ℕ) (image : List ℕ) → IsFreshLogbook row first image → IsEmptyLogbook row first image
fresh_logbook_empty row first image fresh = logbook_of_zeros row first image fresh.opened fresh.back

-- the superblock's gate is no part of them
pub parts_stay : (table : Rows) (old new : List ℕ) → SameElsewhere 0 1 old new → HasEmptyParts table old → HasEmptyParts table new
parts_stay table old new same parts = record {
  short = parts.short;
  superblock = λ k low. same.above (512 + k) (omega arith) ∙ parts.superblock k low;
  trees = λ tree row is. fresh_tree_stays row (512 * tree_start table tree) old new (λ k low high. same.above k (omega (arith, low))) (parts.trees tree row is);
  logbooks = λ logbook row is. fresh_logbook_stays row (512 * logbook_start table logbook) old new (λ k low high. same.above k (omega (arith, low))) (parts.logbooks logbook row is);
}

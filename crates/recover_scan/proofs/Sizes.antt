-- An accepted table has few trees and few logbooks.
use Rattle.std.proofs.Common.{◌≡◌, ◌≤◌, Bool, true, ◌&&◌, length}
use Rattle.std.specs.Prelude.{nat_le}
use Rattle.apex_types.specs.Rows.{Rows}
use Rattle.apex_model.specs.Accepted.{IsAccepted, has_good_names, is_in_range, has_no_repeats, has_known_names, fits_volumes, fits_image, is_within}
use Rattle.apex_model.proofs.AcceptedTables.{and-left, and-right}
use Rattle.apex_model.proofs.Keeps.{le-true}

-- && groups to the left
module _ (table : Rows) (good : IsAccepted table) where
  in_range : is_in_range table ≡ true
  in_range = and-right (has_good_names table) _ (and-left _ (has_no_repeats table) (and-left _ (has_known_names table) (and-left _ (fits_volumes table) (and-left _ (fits_image table) good))))

  abbrev counts : Bool
  counts = is_within 1 16 (length table.partitions) && nat_le (length table.volumes) 8 && nat_le (length table.trees) 32 && nat_le (length table.logbooks) 32 && nat_le (length table.channels) 32

  counted : counts ≡ true
  counted = and-left _ _ (and-left _ _ (and-left _ _ (and-left _ _ in_range)))

  pub few_trees : length table.trees ≤ 32
  few_trees = le-true (length table.trees) 32 (and-right _ _ (and-left _ _ (and-left _ _ counted)))

  pub few_logbooks : length table.logbooks ≤ 32
  few_logbooks = le-true (length table.logbooks) 32 (and-right _ _ (and-left _ _ counted))

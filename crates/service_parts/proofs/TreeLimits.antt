-- How many trees an accepted table has, and within what limits.
use Rattle.std.proofs.Common.{◌≡◌, ◌≤◌, true, length}
use Rattle.std.specs.Prelude.{nat_le}
use Rattle.std.specs.List.{list_all}
use Rattle.apex_types.specs.Rows.{Rows}
use Rattle.apex_model.specs.Accepted.{IsAccepted, has_good_names, is_in_range, has_no_repeats, has_known_names, fits_volumes, fits_image, is_within, is_tree_in_range, is_logbook_in_range, is_channel_in_range}
use Rattle.apex_model.proofs.AcceptedTables.{and-left, and-right}
use Rattle.apex_model.proofs.Keeps.{le-true}

in_range : (table : Rows) → IsAccepted table → is_in_range table ≡ true
in_range table a = and-right (has_good_names table) _ (and-left _ (has_no_repeats table) (and-left _ (has_known_names table) (and-left _ (fits_volumes table) (and-left _ (fits_image table) a))))

-- the number of trees is the third of the tests of the ranges
pub few_trees : (table : Rows) → IsAccepted table → length table.trees ≤ 32
few_trees table a =
    le-true (length table.trees) 32 (and-right _ (nat_le (length table.trees) 32)
    (and-left _ (nat_le (length table.logbooks) 32)
    (and-left _ (nat_le (length table.channels) 32)
    (and-left _ (list_all (λ row. is_within 1 131072 row.blocks) table.volumes)
    (and-left _ (list_all is_tree_in_range table.trees)
    (and-left _ (list_all is_logbook_in_range table.logbooks)
    (and-left _ (list_all is_channel_in_range table.channels) (in_range table a))))))))

-- each tree is within its ranges
pub trees_in_range : (table : Rows) → IsAccepted table → list_all is_tree_in_range table.trees ≡ true
trees_in_range table a =
    and-right _ (list_all is_tree_in_range table.trees)
    (and-left _ (list_all is_logbook_in_range table.logbooks)
    (and-left _ (list_all is_channel_in_range table.channels) (in_range table a)))

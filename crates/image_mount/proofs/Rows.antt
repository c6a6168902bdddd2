-- What is known of the trees of an accepted table.
use Rattle.std.proofs.Common.{◌≡◌, ℕ, ◌≤◌, true, Some}
use Rattle.std.specs.Prelude.{slice_get, nat_le}
use Rattle.std.specs.List.{list_all}
use Rattle.apex_types.specs.Rows.{Rows}
use Rattle.apex_types.specs.declared.rows.TreeRow.{TreeRow}
use Rattle.apex_model.specs.Accepted.{IsAccepted, has_good_names, has_no_repeats, has_known_names, fits_volumes, fits_image, is_in_range, is_within, is_tree_in_range, is_logbook_in_range, is_channel_in_range}
use Rattle.apex_model.proofs.AcceptedTables.{and-left, and-right, all-from-list_all, all_at}
use Rattle.apex_model.proofs.Keeps.{le-true}

in_range : (table : Rows) → IsAccepted table → is_in_range table ≡ true
in_range table good = and-right (has_good_names table) _ (and-left _ (has_no_repeats table) (and-left _ (has_known_names table) (and-left _ (fits_volumes table) (and-left _ (fits_image table) good))))

abbrev HasBuffers : TreeRow → Type 0
HasBuffers row = 16 ≤ row.dirty

row_buffers : (row : TreeRow) → is_tree_in_range row ≡ true → HasBuffers row
row_buffers row e = le-true 16 row.dirty (and-left _ (nat_le row.dirty 48) (and-right _ (is_within 16 48 row.dirty) e))

all_in_range : (table : Rows) → IsAccepted table → list_all is_tree_in_range table.trees ≡ true
all_in_range table good = and-right _ (list_all is_tree_in_range table.trees) (and-left _ (list_all is_logbook_in_range table.logbooks) (and-left _ (list_all is_channel_in_range table.channels) (in_range table good)))

-- a tree has 16 buffers at least
pub row_has_buffers : (table : Rows) → IsAccepted table → (k : ℕ) (row : TreeRow) → slice_get table.trees k ≡ Some row → 16 ≤ row.dirty
row_has_buffers table good k row is = all_at HasBuffers table.trees k row (all-from-list_all is_tree_in_range HasBuffers row_buffers table.trees (all_in_range table good)) is

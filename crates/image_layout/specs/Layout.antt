-- The parts of an image as ranges of bytes: the superblock, the trees and the logbooks, one behind another.
use Rattle.std.specs.Prelude.{ℕ, ◌*◌, ◌≤◌, List, ◌∷◌, ◌++◌, map, sum_by}
use Rattle.apex_types.specs.Rows.{Rows}
use Rattle.apex_model.specs.Layout.{superblock_blocks, layout_blocks, tree_start, logbook_start, tree_blocks, logbook_blocks}
use Rattle.rig_core.specs.Windows.{Window, AreLaidOut}
use Rattle.store_model.specs.Betweens.{TreeSite}
use Rattle.logbook_store.specs.Logs.{Site, size_of, sites_from as log_sites_from}
use Rattle.tree_store.specs.Serving.{window_of, sites_from as tree_sites_from}

-- the trees of a table with their places, and its logbooks
abbrev pub tree_sites : Rows → List TreeSite
tree_sites table = tree_sites_from table 0 table.trees

abbrev pub log_sites : Rows → List Site
log_sites table = log_sites_from table 0 table.logbooks

-- the region of a logbook
abbrev pub log_window : Site → Window
log_window site = (site.1, size_of site)

abbrev pub superblock_window : Window
superblock_window = (0, 512 * superblock_blocks)

-- the superblock, the regions of trees and those of logbooks, in the order of the layout
abbrev pub windows_of : Rows → List Window
windows_of table = superblock_window ∷ (map window_of (tree_sites table) ++ map log_window (log_sites table))

abbrev pub TableIsLaidOut : Type 0
TableIsLaidOut = (table : Rows) (size : ℕ) → 512 * layout_blocks table ≤ size → AreLaidOut (windows_of table) size

-- the range of all trees together, and that of all logbooks
abbrev pub trees_start : Rows → ℕ
trees_start table = 512 * tree_start table 0

abbrev pub trees_long : Rows → ℕ
trees_long table = 512 * sum_by tree_blocks table.trees

abbrev pub books_start : Rows → ℕ
books_start table = 512 * logbook_start table 0

abbrev pub books_long : Rows → ℕ
books_long table = 512 * sum_by logbook_blocks table.logbooks

-- How the regions of an image follow each other.
use Rattle.std.proofs.Common.{◌≡◌, ℕ, ◌+◌, ◌≤◌, List, length, take, sum_by, get_or, Some, slice_get, ap, ◌∙◌, arith}
use Rattle.std.proofs.lemmas.List.{take_all, take_more}
use Rattle.std.proofs.lemmas.List.Sums.{sum_by_push, sum_by-take-le}
use Rattle.std.proofs.lemmas.Option.{slice_get_within, get_or_from_slice_get}
use Rattle.apex_types.specs.Rows.{Rows}
use Rattle.apex_types.specs.declared.rows.LogbookRow.{LogbookRow}
use Rattle.apex_types.specs.declared.rows.TreeRow.{TreeRow}
use Rattle.apex_model.specs.Layout.{tree_blocks, logbook_blocks, tree_start, logbook_start, layout_blocks}

-- the sum over one row more
sum_by-one_more : {R : Type 0} (f : R → ℕ) (rows : List R) (k : ℕ) (row : R) → slice_get rows k ≡ Some row → sum_by f (take (k + 1) rows) ≡ sum_by f (take k rows) + f row
sum_by-one_more f rows k row found =
    let low = slice_get_within rows k row found in
    let same = get_or_from_slice_get rows k row row found in
    ap (sum_by f) (take_more rows k row low) ∙ sum_by_push f (take k rows) (get_or rows k row) ∙ ap (λ r. sum_by f (take k rows) + f r) same

-- a tree's region begins where the one before it ends
pub tree_start-next : (table : Rows) (k : ℕ) (row : TreeRow) → slice_get table.trees k ≡ Some row → tree_start table (k + 1) ≡ tree_start table k + tree_blocks row
tree_start-next table k row found = omega (arith, sum_by-one_more tree_blocks table.trees k row found)

-- the logbooks begin where the trees end
pub tree_start-last : (table : Rows) → tree_start table (length table.trees) ≡ logbook_start table 0
tree_start-last table = omega (arith, ap (sum_by tree_blocks) (take_all (length table.trees) table.trees (omega arith)))

-- a logbook's region begins where the one before it ends
pub logbook_start-next : (table : Rows) (k : ℕ) (row : LogbookRow) → slice_get table.logbooks k ≡ Some row → logbook_start table (k + 1) ≡ logbook_start table k + logbook_blocks row
logbook_start-next table k row found = omega (arith, sum_by-one_more logbook_blocks table.logbooks k row found)

-- the image ends where the logbooks end
pub logbook_start-last : (table : Rows) → logbook_start table (length table.logbooks) ≡ layout_blocks table
logbook_start-last table = omega (arith, ap (sum_by logbook_blocks) (take_all (length table.logbooks) table.logbooks (omega arith)))

-- a tree's region ends no later than the trees
pub tree_within : (table : Rows) (k : ℕ) (row : TreeRow) → slice_get table.trees k ≡ Some row → tree_start table k + tree_blocks row ≤ logbook_start table 0
tree_within table k row found = omega (arith, sum_by-one_more tree_blocks table.trees k row found, sum_by-take-le tree_blocks table.trees (k + 1))

-- a logbook's region ends no later than the image
pub logbook_within : (table : Rows) (k : ℕ) (row : LogbookRow) → slice_get table.logbooks k ≡ Some row → logbook_start table k + logbook_blocks row ≤ layout_blocks table
logbook_within table k row found = omega (arith, sum_by-one_more logbook_blocks table.logbooks k row found, sum_by-take-le logbook_blocks table.logbooks (k + 1))

-- the logbooks begin within the image
pub trees_within : (table : Rows) → logbook_start table 0 ≤ layout_blocks table
trees_within table = omega arith

use Rattle.std.proofs.Common.{◌≡◌, ℕ, ◌*◌, ◌<◌, ◌≤◌, Some, slice_get}
use Rattle.apex_types.specs.declared.rows.TreeRow.{TreeRow}
use Rattle.apex_model.specs.Layout.{slot_blocks}
use Rattle.recover_scan.proofs.runs.longest_of_trees.Given as goal

-- it is long enough for the trees so far
abbrev pub invariant-loop-tree : goal.invariant-loop-tree
invariant-loop-tree l = record {
  least : l.least ≤ l.longest;
  trees : (tree : ℕ) (row : TreeRow) → tree < l.tree → slice_get l.table.trees tree ≡ Some row → 1024 * slot_blocks row ≤ l.longest;
}

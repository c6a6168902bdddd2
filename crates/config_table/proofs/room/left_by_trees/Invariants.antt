use Rattle.std.proofs.Common.{◌≡◌, ◌+◌, drop}
use Rattle.std.specs.Prelude.{sum_by}
use Rattle.apex_model.specs.Layout.{tree_blocks}
use Rattle.config_table.proofs.room.left_by_trees.Given as goal

abbrev pub invariant-loop-tree : goal.invariant-loop-tree
invariant-loop-tree l = sum_by tree_blocks l.trees + l.left ≡ sum_by tree_blocks (drop l.tree-index l.trees) + l.blocks

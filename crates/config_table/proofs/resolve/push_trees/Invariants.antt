use Rattle.std.proofs.Common.{◌≡◌, drop}
use Rattle.std.specs.Option.{option_map}
use Rattle.table_model.specs.Table.{all_of, tree_row}
use Rattle.config_table.specs.Pushes.{with_trees}
use Rattle.config_table.proofs.resolve.push_trees.Given as goal

abbrev pub invariant-loop-tree : goal.invariant-loop-tree
invariant-loop-tree l = option_map (with_trees l.table) (all_of (tree_row l.partitions l.volumes) (drop l.tree-index l.rows)) ≡ option_map (with_trees l.initial.table) (all_of (tree_row l.partitions l.volumes) l.rows)

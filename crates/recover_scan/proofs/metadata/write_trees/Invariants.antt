use Rattle.std.proofs.Common.{◌*◌, sum_by}
use Rattle.apex_model.specs.Layout.{tree_blocks}
use Rattle.rig_core.specs.Outside.{MakesAtMost}
use Rattle.recover_scan.specs.Format.{ChangesOnly, SparesRest}
use Rattle.recover_scan.proofs.Ordered.{EmptyTreesBelow}
use Rattle.recover_scan.proofs.metadata.write_trees.Given as goal

-- only trees changed, and those so far are empty
abbrev pub invariant-loop-tree : goal.invariant-loop-tree
invariant-loop-tree g l = record {
  changes : ChangesOnly g.R.Rig.tells_view 16896 (512 * sum_by tree_blocks l.table.trees) (g.R.Rig.state l.initial.rig) (g.R.Rig.state l.rig);
  spares : SparesRest g.R.Rig.tells_view l.table (g.R.Rig.state l.initial.rig) (g.R.Rig.state l.rig);
  made : MakesAtMost l.tree 0 0 (g.R.Rig.state l.initial.rig) (g.R.Rig.state l.rig);
  empty : g.R.Rig.tells_view → EmptyTreesBelow l.table l.tree (g.R.Rig.state l.rig).view;
}

use Rattle.std.proofs.Common.{take}
use Rattle.rig_core.specs.Outside.{OnlyReads}
use Rattle.image_mount.specs.Mounted.{AreMounted}
use Rattle.image_mount.proofs.trees.mount_trees.Given as goal

-- the trees before this one are mounted
abbrev pub invariant-loop-tree : goal.invariant-loop-tree
invariant-loop-tree g l = record {
  reads : OnlyReads g.R.Rig.tells_view (g.R.Rig.state l.initial.rig) (g.R.Rig.state l.rig);
  trees : AreMounted g.R.Rig.tells_view (g.R.Rig.state l.rig) l.table (take l.tree l.table.trees) l.stores.items;
}

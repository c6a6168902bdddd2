use Rattle.std.proofs.Common.{◌≡◌, ◌+◌, [], ◌∷◌, ◌++◌, take, sym, subst, arith}
use Rattle.logbook_store.proofs.ReadRuns.{reads_then}
use Rattle.image_mount.specs.Mounted.{AreMounted}
use Rattle.image_mount.proofs.Kept.{settled_kept, trees_kept}
use Rattle.image_mount.proofs.OneByOne.{no_trees, tree_more}
use Rattle.image_mount.proofs.trees.mount_trees.Goals as goal

pub mount_tree-requires-clause-fits : goal.mount_tree-requires-clause-fits
mount_tree-requires-clause-fits g c = omega (arith, c.requires.fits, c.loop-tree.invariant.reads.later.size)

pub mount_tree-requires-clause-settled : goal.mount_tree-requires-clause-settled
mount_tree-requires-clause-settled g c =
    settled_kept g.R.Rig.tells_view g.R.Rig.keeps_cuts (g.R.Rig.state c.args.rig.now) (g.R.Rig.state c.loop-tree.rig) (g.met.R.Rig.sound c.args.rig.now) (g.met.R.Rig.sound c.loop-tree.rig)
    c.loop-tree.invariant.reads c.requires.settled

pub returns-in-Err-clause-refused : goal.returns-in-Err-clause-refused
returns-in-Err-clause-refused g c =
    no_trees g.R.Rig.tells_view c.args.table.now c.loop-tree.tree (g.R.Rig.state c.args.rig.now) (g.R.Rig.state c.loop-tree.rig) (g.R.Rig.state c.mount_tree.new.rig) c.loop-tree.stores.items
    c.loop-tree.invariant.reads c.loop-tree.invariant.trees c.in-Err.error c.in-Err.ensures.refused

pub loop-tree-preserved : goal.loop-tree-preserved
loop-tree-preserved g c =
    let V = g.R.Rig.tells_view in
    let table = c.args.table.now in
    let k = c.loop-tree.tree in
    let o = g.R.Rig.state c.args.rig.now in
    let m = g.R.Rig.state c.loop-tree.rig in
    let e = g.R.Rig.state c.mount_tree.new.rig in
    let stores = c.loop-tree.stores.items in
    let store = c.in-Ok-mount_tree.store in
    let pushed : c.push.new.self.items ≡ stores ++ store ∷ [] = c.in-Ok-push.ensures.items in
    let kept : AreMounted V e table (take k table.trees) stores = trees_kept V g.R.Rig.keeps_cuts m e (g.met.R.Rig.sound c.loop-tree.rig) (g.met.R.Rig.sound c.mount_tree.new.rig) c.mount_tree.ensures.reads
    table (take k table.trees) stores c.loop-tree.invariant.trees in
    record {
      reads = reads_then V o m e c.loop-tree.invariant.reads c.mount_tree.ensures.reads;
      trees = subst (AreMounted V e table (take (k + 1) table.trees)) (sym pushed) (tree_more V e table k stores store kept c.in-Ok-mount_tree.ensures.mounted);
    }

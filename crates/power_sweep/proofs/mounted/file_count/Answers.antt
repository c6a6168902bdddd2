use Rattle.std.proofs.Common.{◌<◌, length, arith}
use Rattle.power_sweep.proofs.Files.{tree-more}
use Rattle.power_sweep.proofs.mounted.file_count.Goals as goal

pub loop-tree-preserved : goal.loop-tree-preserved
loop-tree-preserved c =
    let there : c.loop-tree.tree < length c.args.trees.now = omega (arith, c.loop-tree-test.true, c.requires) in
    let more = tree-more c.args.trees.now c.loop-tree.tree c.tree.result.now c.files.result there c.tree.ensures c.files.ensures.count in
    (omega (arith, more, c.from-files.ensures, c.loop-tree.invariant.0), omega (arith, c.from-files.ensures, c.loop-tree.invariant.1, c.files.type_inv))

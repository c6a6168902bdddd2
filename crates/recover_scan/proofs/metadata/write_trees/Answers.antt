use Rattle.std.proofs.Common.{◌≡◌, ◌*◌, ◌<◌, ◌≤◌, ◌∙◌, length, take, ap, arith}
use Rattle.std.proofs.lemmas.Option.{slice_get_within}
use Rattle.apex_model.specs.Layout.{slot_blocks, tree_start}
use Rattle.recover_scan.proofs.Ordered.{row_at, length-front, tree_fits, tree_changes, tree_empties}
use Rattle.recover_scan.proofs.Rest.{tree_spares}
use Rattle.recover_scan.proofs.metadata.write_trees.Goals as goal

pub slice_bounds-run-end : goal.slice_bounds-run-end
slice_bounds-run-end g c =
    let rows = c.args.table.now.trees in
    let low : c.loop-tree.tree < length rows = omega (arith, c.loop-tree-test.true, ap length c.trees.ensures) in
    let there = row_at rows c.loop-tree.tree low in
    let long : c.slots_length.result ≡ 1024 * slot_blocks there.0 = c.slots_length.ensures c.args.table.now there.0 c.requires.places there.1 in
    let room : 1024 * slot_blocks there.0 ≤ length c.args.buffer.now = c.requires.room c.loop-tree.tree there.0 there.1 in
    omega (arith, long, room)

pub slice_bounds-run-end-in-loop-tree : goal.slice_bounds-run-end-in-loop-tree
slice_bounds-run-end-in-loop-tree g c =
    let rows = c.args.table.now.trees in
    let low : c.loop-tree.tree < length rows = omega (arith, c.loop-tree-test.true, ap length c.trees.ensures) in
    let there = row_at rows c.loop-tree.tree low in
    let long : c.slots_length.result ≡ 1024 * slot_blocks there.0 = c.slots_length.ensures c.args.table.now there.0 c.requires.places there.1 in
    let room : 1024 * slot_blocks there.0 ≤ length c.args.buffer.now = c.requires.room c.loop-tree.tree there.0 there.1 in
    let front : length (take c.slots_length.result c.loop-tree.buffer) ≡ c.slots_length.result = length-front c.slots_length.result c.loop-tree.buffer (omega (arith, long, room)) in
    omega (arith, front)

pub write_tree-requires-clause-room : goal.write_tree-requires-clause-room
write_tree-requires-clause-room g c =
    let rows = c.args.table.now.trees in
    let low : c.loop-tree.tree < length rows = omega (arith, c.loop-tree-test.true, ap length c.trees.ensures) in
    let there = row_at rows c.loop-tree.tree low in
    let long : c.slots_length.result ≡ 1024 * slot_blocks there.0 = c.slots_length.ensures c.args.table.now there.0 c.requires.places there.1 in
    let room : 1024 * slot_blocks there.0 ≤ length c.args.buffer.now = c.requires.room c.loop-tree.tree there.0 there.1 in
    let front : length (take c.slots_length.result c.loop-tree.buffer) ≡ c.slots_length.result = length-front c.slots_length.result c.loop-tree.buffer (omega (arith, long, room)) in
    omega (arith, front, long)

pub write_tree-requires-clause-fits : goal.write_tree-requires-clause-fits
write_tree-requires-clause-fits g c =
    let rows = c.args.table.now.trees in
    let low : c.loop-tree.tree < length rows = omega (arith, c.loop-tree-test.true, ap length c.trees.ensures) in
    let there = row_at rows c.loop-tree.tree low in
    let long : c.slots_length.result ≡ 1024 * slot_blocks there.0 = c.slots_length.ensures c.args.table.now there.0 c.requires.places there.1 in
    let room : 1024 * slot_blocks there.0 ≤ length c.args.buffer.now = c.requires.room c.loop-tree.tree there.0 there.1 in
    let front : length (take c.slots_length.result c.loop-tree.buffer) ≡ c.slots_length.result = length-front c.slots_length.result c.loop-tree.buffer (omega (arith, long, room)) in
    let at : c.tree_start.result ≡ 512 * tree_start c.args.table.now c.loop-tree.tree = c.tree_start.ensures c.args.table.now c.requires.places in
    omega (arith, front, long, at, c.loop-tree.invariant.changes.later.size, tree_fits c.args.table.now c.loop-tree.tree there.0 (g.R.Rig.state c.args.rig.now).size there.1 c.requires.fits)

pub returns-in_err-write_tree-clause-changes : goal.returns-in_err-write_tree-clause-changes
returns-in_err-write_tree-clause-changes g c =
    let rows = c.args.table.now.trees in
    let low : c.loop-tree.tree < length rows = omega (arith, c.loop-tree-test.true, ap length c.trees.ensures) in
    let there = row_at rows c.loop-tree.tree low in
    let long : c.slots_length.result ≡ 1024 * slot_blocks there.0 = c.slots_length.ensures c.args.table.now there.0 c.requires.places there.1 in
    let room : 1024 * slot_blocks there.0 ≤ length c.args.buffer.now = c.requires.room c.loop-tree.tree there.0 there.1 in
    let front : length (take c.slots_length.result c.loop-tree.buffer) ≡ c.slots_length.result = length-front c.slots_length.result c.loop-tree.buffer (omega (arith, long, room)) in
    let at : c.tree_start.result ≡ 512 * tree_start c.args.table.now c.loop-tree.tree = c.tree_start.ensures c.args.table.now c.requires.places in
    tree_changes g.R.Rig.tells_view g.R.Rig.keeps_cuts c.args.table.now c.loop-tree.tree c.tree_start.result (length (take c.slots_length.result c.loop-tree.buffer)) there.0 (g.R.Rig.state c.args.rig.now) (g.R.Rig.state c.loop-tree.rig) (g.R.Rig.state c.write_tree.new.rig)
    (g.met.R.Rig.sound c.loop-tree.rig) there.1 at (front ∙ long) c.loop-tree.invariant.changes c.write_tree.ensures.changes

pub returns-in_err-write_tree-clause-spares : goal.returns-in_err-write_tree-clause-spares
returns-in_err-write_tree-clause-spares g c =
    let rows = c.args.table.now.trees in
    let low : c.loop-tree.tree < length rows = omega (arith, c.loop-tree-test.true, ap length c.trees.ensures) in
    let there = row_at rows c.loop-tree.tree low in
    let long : c.slots_length.result ≡ 1024 * slot_blocks there.0 = c.slots_length.ensures c.args.table.now there.0 c.requires.places there.1 in
    let room : 1024 * slot_blocks there.0 ≤ length c.args.buffer.now = c.requires.room c.loop-tree.tree there.0 there.1 in
    let front : length (take c.slots_length.result c.loop-tree.buffer) ≡ c.slots_length.result = length-front c.slots_length.result c.loop-tree.buffer (omega (arith, long, room)) in
    let at : c.tree_start.result ≡ 512 * tree_start c.args.table.now c.loop-tree.tree = c.tree_start.ensures c.args.table.now c.requires.places in
    tree_spares g.R.Rig.tells_view g.R.Rig.keeps_cuts c.args.table.now c.loop-tree.tree c.tree_start.result (length (take c.slots_length.result c.loop-tree.buffer)) there.0 (g.R.Rig.state c.args.rig.now) (g.R.Rig.state c.loop-tree.rig) (g.R.Rig.state c.write_tree.new.rig)
    (g.met.R.Rig.sound c.loop-tree.rig) there.1 at (front ∙ long) c.loop-tree.invariant.spares c.write_tree.ensures.changes

pub loop-tree-preserved : goal.loop-tree-preserved
loop-tree-preserved g c =
    let rows = c.args.table.now.trees in
    let low : c.loop-tree.tree < length rows = omega (arith, c.loop-tree-test.true, ap length c.trees.ensures) in
    let there = row_at rows c.loop-tree.tree low in
    let long : c.slots_length.result ≡ 1024 * slot_blocks there.0 = c.slots_length.ensures c.args.table.now there.0 c.requires.places there.1 in
    let room : 1024 * slot_blocks there.0 ≤ length c.args.buffer.now = c.requires.room c.loop-tree.tree there.0 there.1 in
    let front : length (take c.slots_length.result c.loop-tree.buffer) ≡ c.slots_length.result = length-front c.slots_length.result c.loop-tree.buffer (omega (arith, long, room)) in
    let at : c.tree_start.result ≡ 512 * tree_start c.args.table.now c.loop-tree.tree = c.tree_start.ensures c.args.table.now c.requires.places in
    record {
      changes = tree_changes g.R.Rig.tells_view g.R.Rig.keeps_cuts c.args.table.now c.loop-tree.tree c.tree_start.result (length (take c.slots_length.result c.loop-tree.buffer)) there.0 (g.R.Rig.state c.args.rig.now) (g.R.Rig.state c.loop-tree.rig) (g.R.Rig.state c.write_tree.new.rig)
          (g.met.R.Rig.sound c.loop-tree.rig) there.1 at (front ∙ long) c.loop-tree.invariant.changes c.write_tree.ensures.changes;
      spares = tree_spares g.R.Rig.tells_view g.R.Rig.keeps_cuts c.args.table.now c.loop-tree.tree c.tree_start.result (length (take c.slots_length.result c.loop-tree.buffer)) there.0 (g.R.Rig.state c.args.rig.now) (g.R.Rig.state c.loop-tree.rig) (g.R.Rig.state c.write_tree.new.rig)
          (g.met.R.Rig.sound c.loop-tree.rig) there.1 at (front ∙ long) c.loop-tree.invariant.spares c.write_tree.ensures.changes;
      made = record {
        writes = omega (arith, c.loop-tree.invariant.made.writes, c.write_tree.ensures.made.writes);
        syncs = omega (arith, c.loop-tree.invariant.made.syncs, c.write_tree.ensures.made.syncs);
        tells = omega (arith, c.loop-tree.invariant.made.tells, c.write_tree.ensures.made.tells);
      };
      empty = tree_empties g.R.Rig.tells_view c.args.table.now c.loop-tree.tree c.tree_start.result (length (take c.slots_length.result c.loop-tree.buffer)) there.0 (g.R.Rig.state c.loop-tree.rig) (g.R.Rig.state c.write_tree.new.rig) there.1 at
          c.loop-tree.invariant.empty c.write_tree.ensures.changes (λ tells. c.in_ok-write_tree.ensures.written there.0 (front ∙ long) tells);
    }

pub returns-clause-written : goal.returns-clause-written
returns-clause-written g c tells tree row found =
    c.loop-tree.invariant.empty tells tree row (omega (arith, c.loop-tree-test.false, ap length c.trees.ensures, slice_get_within c.args.table.now.trees tree row found)) found

use Rattle.std.proofs.Common.{◌∙◌, ◌≡◌, ◌≤◌, ℕ, List, subst, arith}
use Rattle.apex_types.specs.declared.numbers.FileNode.{FileNode}
use Rattle.tree_region.specs.InStep.{data_at}
use Rattle.block_pool.specs.Buffers.{node_of}
use Rattle.present_files.specs.Present.{present_block}
use Rattle.present_files.proofs.HeldBlocks.{held-next, held-node}
use Rattle.present_files.proofs.ReadRuns.{reads_then}
use Rattle.present_files.proofs.Unchanged.{keeps-all, keeps-blocks, keeps-then}
use Rattle.present_files.proofs.writing.hold_blocks.Goals as goal

pub loop-k-preserved : goal.loop-k-preserved
loop-k-preserved g c =
    let V = g.R.Rig.tells_view in
    let row = c.args.row.now in
    let at = c.args.at in
    let before = c.loop-k.invariant in
    let old = c.loop-k.present in
    let new = c.buffer.new.present in
    let view = (g.R.Rig.state c.args.rig.now).view in
    let first : c.args.from ≤ c.loop-k.k = search arith in
    record {
      reads = reads_then V (g.R.Rig.state c.args.rig.now) (g.R.Rig.state c.loop-k.rig) (g.R.Rig.state c.buffer.new.rig) before.reads c.buffer.ensures.reads;
      unchanged = keeps-then V (data_at row at view) c.args.present.now old new before.unchanged
          (keeps-blocks V (data_at row at view) old new c.buffer.ensures.sizes c.buffer.ensures.numbers
          (λ tells. subst (λ (v : List ℕ). (h : FileNode) (j : ℕ) → present_block (data_at row at v) new h j ≡ present_block (data_at row at v) old h j) (before.reads.view tells) (c.in_ok-buffer.ensures.same tells)));
      present = c.buffer.ensures.present;
      held = held-next old.pool new.pool c.args.file c.args.from c.loop-k.k before.held c.buffer.ensures.others (held-node (node_of new.pool c.args.file c.loop-k.k) c.in_ok-buffer.field-0 c.in_ok-buffer.ensures.node);
      buffers = c.buffer.ensures.buffers ∙ before.buffers;
      free = omega (arith, before.free, c.buffer.ensures.free, first);
    }

pub returns-in_err-buffer-clause-unchanged : goal.returns-in_err-buffer-clause-unchanged
returns-in_err-buffer-clause-unchanged g c =
    let V = g.R.Rig.tells_view in
    let blocks = data_at c.args.row.now c.args.at (g.R.Rig.state c.args.rig.now).view in
    keeps-then V blocks c.args.present.now c.loop-k.present c.buffer.new.present c.loop-k.invariant.unchanged
    (keeps-all V blocks c.loop-k.present c.buffer.new.present c.buffer.ensures.sizes c.buffer.ensures.numbers c.in_err-buffer.ensures.all_stay)

pub returns-clause-held : goal.returns-clause-held
returns-clause-held g c = λ j low high.
    let over : c.args.to ≤ c.loop-k.k = search arith in
    c.loop-k.invariant.held j low (omega (arith, over, high))

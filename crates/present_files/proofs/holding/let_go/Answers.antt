use Rattle.std.proofs.Common.{◌≤◌, subst, sym, ap, ◌∙◌}
use Rattle.block_pool.specs.Buffers.{Buffers, node_of}
use Rattle.present_files.specs.Nodes.{OthersStay, free_in}
use Rattle.present_files.proofs.HeldBlocks.{free-released, gone-released, others-released}
use Rattle.present_files.proofs.holding.let_go.Goals as goal

pub returns-in-Some-clause-gone : goal.returns-in-Some-clause-gone
returns-in-Some-clause-gone c =
    ap (λ (b : Buffers). node_of b c.args.file c.args.k) c.release.ensures.released
    ∙ gone-released c.args.pool.now c.args.file c.args.k c.in-Some.node (sym c.in-Some.ensures.found) c.find.ensures.sound

pub returns-in-Some-clause-others : goal.returns-in-Some-clause-others
returns-in-Some-clause-others c =
    subst (λ (b : Buffers). OthersStay c.args.file c.args.k c.args.pool.now b) (sym c.release.ensures.released)
    (others-released c.args.pool.now c.args.file c.args.k c.in-Some.node (sym c.in-Some.ensures.found))

pub returns-in-Some-clause-free : goal.returns-in-Some-clause-free
returns-in-Some-clause-free c =
    subst (λ (b : Buffers). free_in c.args.pool.now ≤ free_in b) (sym c.release.ensures.released)
    (free-released c.args.pool.now c.find.ensures.sound c.in-Some.node c.in-Some.ensures.within)

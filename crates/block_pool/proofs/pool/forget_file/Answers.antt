use Rattle.block_pool.specs.Buffers.{without_file}
use Rattle.block_pool.proofs.Mapped.{mapped_more}
use Rattle.block_pool.proofs.pool.forget_file.Goals as goal

pub loop-block-preserved : goal.loop-block-preserved
loop-block-preserved c =
    mapped_more (without_file c.args.file) c.loop-block.blocks c.args.blocks.now c.loop-block.block-index _ c.forget.new.block
    c.loop-block.invariant c.loop-block-test.true c.forget.ensures

use Rattle.std.proofs.Common.{◌≡◌, ◌++◌, map, take, drop}
use Rattle.block_pool.specs.Buffers.{without_file}
use Rattle.block_pool.proofs.pool.forget_file.Given as goal

-- the blocks so far are changed, and the others are as they were
abbrev pub invariant-loop-block : goal.invariant-loop-block
invariant-loop-block l = l.blocks ≡ map (without_file l.file) (take l.block-index l.initial.blocks) ++ drop l.block-index l.initial.blocks

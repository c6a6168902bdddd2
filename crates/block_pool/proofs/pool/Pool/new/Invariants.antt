use Rattle.std.proofs.Common.{◌≡◌, replicate, None}
use Rattle.block_pool.proofs.pool.Pool.new.Given as goal

abbrev pub invariant-loop : goal.invariant-loop
invariant-loop l = (l.blocks.items ≡ replicate l.counter None) × (l.contents.items ≡ replicate l.counter (replicate 512 0))

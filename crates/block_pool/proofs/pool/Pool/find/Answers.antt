use Rattle.std.proofs.Common.{List, Option, length, ap, arith}
use Rattle.block_pool.specs.declared.buffers.Block.{Block}
use Rattle.block_pool.proofs.pool.Pool.find.Goals as goal

pub overflow_cast-result : goal.overflow_cast-result
overflow_cast-result c =
    let few = c.self.invariant.fits in
    let long = c.self.invariant.blocks_length in
    let same = ap (λ (xs : List (Option Block)). length xs) c.deref.ensures.value in
    let within = c.in-Some.ensures.within in
    omega (arith, few, long, same, within)

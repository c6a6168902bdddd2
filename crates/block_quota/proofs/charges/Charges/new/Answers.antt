use Rattle.std.proofs.Common.{arith, sym}
use Rattle.block_quota.proofs.Sums.{sum-nothing}
use Rattle.block_quota.proofs.charges.Charges.new.Goals as goal

pub invariant_of-result : goal.invariant_of-result
invariant_of-result c = (rw c.loop.invariant (sym (sum-nothing c.loop.counter)), omega arith)

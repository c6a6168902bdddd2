use Rattle.block_quota.specs.Blocks.{AllUsedBefore}
use Rattle.block_quota.proofs.blocks.first_free.Given as goal

-- all places before are used
abbrev pub invariant-loop-k : goal.invariant-loop-k
invariant-loop-k l = AllUsedBefore l.used l.k

use Rattle.tree_region.proofs.MarkedTables.{IsMarkedTo}
use Rattle.tree_region.proofs.used.used_blocks.Given as goal

-- the first numbers are marked
abbrev pub invariant-loop-k : goal.invariant-loop-k
invariant-loop-k l = IsMarkedTo l.quota l.numbers l.k l.used

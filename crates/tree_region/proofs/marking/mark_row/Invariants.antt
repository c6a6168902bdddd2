use Rattle.tree_region.specs.Marking.{IsRowMarked}
use Rattle.tree_region.proofs.marking.mark_row.Given as goal

-- the first numbers are marked
abbrev pub invariant-loop-k : goal.invariant-loop-k
invariant-loop-k l = IsRowMarked l.row l.k l.initial.used l.used

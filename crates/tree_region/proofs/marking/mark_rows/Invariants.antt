use Rattle.tree_region.specs.Marking.{AreRowsMarked}
use Rattle.tree_region.proofs.marking.mark_rows.Given as goal

-- the first rows are marked
abbrev pub invariant-loop-f : goal.invariant-loop-f
invariant-loop-f l = AreRowsMarked l.rows l.f l.initial.used l.used

use Rattle.file_tree.specs.Least.{IsLeastBelow}
use Rattle.file_tree.proofs.least.least_place.Given as goal

abbrev pub invariant-loop-k : goal.invariant-loop-k
invariant-loop-k l = IsLeastBelow l.parent.0 l.after l.entries l.k l.best

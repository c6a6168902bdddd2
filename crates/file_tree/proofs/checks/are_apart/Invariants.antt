use Rattle.std.proofs.Common.{◌≡◌, drop}
use Rattle.file_tree.specs.Checks.{are_apart}
use Rattle.file_tree.proofs.checks.are_apart.Given as goal

-- all are apart where those that are left are
abbrev pub invariant-loop-k : goal.invariant-loop-k
invariant-loop-k l = are_apart l.entries ≡ are_apart (drop l.k l.entries)

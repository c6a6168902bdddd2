use Rattle.std.proofs.Common.{◌≡◌, length, take, replicate, None}
use Rattle.file_tree.proofs.entries.clear.Given as goal

-- the first places are unused
abbrev pub invariant-loop-k : goal.invariant-loop-k
invariant-loop-k l = (take l.k l.entries ≡ replicate l.k None) × (length l.entries ≡ length l.initial.entries)

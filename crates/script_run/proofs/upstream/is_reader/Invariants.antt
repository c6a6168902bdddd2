use Rattle.std.proofs.Common.{◌≡◌, ◌==◌, false, take}
use Rattle.std.specs.List.{list_any}
use Rattle.script_run.proofs.upstream.is_reader.Given as goal

-- none of the first ones is of the partition
abbrev pub invariant-loop-k : goal.invariant-loop-k
invariant-loop-k l = list_any (λ reader. reader.0 == l.p.0) (take l.k l.readers) ≡ false

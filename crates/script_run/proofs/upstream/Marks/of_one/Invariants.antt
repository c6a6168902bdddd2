use Rattle.std.proofs.Common.{◌≡◌, ◌≤◌, ◌==◌, map, length}
use Rattle.std.specs.List.{range_with_len}
use Rattle.script_run.proofs.upstream.Marks.of_one.Given as goal

-- the marks of the first partitions
abbrev pub invariant-loop-q : goal.invariant-loop-q
invariant-loop-q l = (l.content.items ≡ map (λ q. q == l.p.0) (range_with_len 0 l.q)) × (length l.content.items ≡ l.q) × (l.q-end ≤ 16)

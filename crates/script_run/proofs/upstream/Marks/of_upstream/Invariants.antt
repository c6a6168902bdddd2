use Rattle.std.proofs.Common.{◌≡◌, ◌==◌, map}
use Rattle.apex_model.specs.Isolation.{partition_numbers, spread_times}
use Rattle.script_run.proofs.upstream.Marks.of_upstream.Given as goal

-- the marks after so many rounds
abbrev pub invariant-loop : goal.invariant-loop
invariant-loop l = l.marks ≡ spread_times l.counter l.table (map (λ q. q == l.fn.p.0) (partition_numbers l.table))

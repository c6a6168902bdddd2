use Rattle.std.proofs.Common.{◌≡◌}
use Rattle.sampling_ext.proofs.Marks.{forgotten_to}
use Rattle.sampling_ext.proofs.ports.forget.Given as goal

abbrev pub invariant-loop-k : goal.invariant-loop-k
invariant-loop-k l = l.created ≡ forgotten_to l.p.0 l.k l.list l.initial.created

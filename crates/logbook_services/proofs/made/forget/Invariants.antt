use Rattle.std.proofs.Common.{◌≡◌}
use Rattle.logbook_services.proofs.Marks.{forgotten_to}
use Rattle.logbook_services.proofs.made.forget.Given as goal

abbrev pub invariant-loop-k : goal.invariant-loop-k
invariant-loop-k l = l.marks ≡ forgotten_to l.p.0 l.k l.rows l.initial.marks

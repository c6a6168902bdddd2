use Rattle.std.proofs.Common.{◌≡◌, replicate, false}
use Rattle.logbook_services.proofs.made.unset_marks.Given as goal

abbrev pub invariant-loop : goal.invariant-loop
invariant-loop l = l.marks.items ≡ replicate l.counter false

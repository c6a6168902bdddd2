use Rattle.std.proofs.Common.{◌≡◌, replicate}
use Rattle.block_quota.proofs.charges.Charges.new.Given as goal

abbrev pub invariant-loop : goal.invariant-loop
invariant-loop l = l.by_file.items ≡ replicate l.counter 0

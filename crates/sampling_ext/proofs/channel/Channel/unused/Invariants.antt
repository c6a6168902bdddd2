use Rattle.std.proofs.Common.{◌≡◌, ◌≤◌, length, replicate, false}
use Rattle.sampling_ext.proofs.channel.Channel.unused.Given as goal

abbrev pub invariant-loop : goal.invariant-loop
invariant-loop l = (l.consumed.items ≡ replicate l.counter false) × (length l.consumed.items ≡ l.counter) × (l.end ≤ 8)

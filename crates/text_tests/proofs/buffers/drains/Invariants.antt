use Rattle.std.proofs.Common.{◌≡◌, length}
use Rattle.text_tests.proofs.buffers.drains.Given as goal

abbrev pub invariant-loop-node : goal.invariant-loop-node
invariant-loop-node l = length l.lists ≡ 3

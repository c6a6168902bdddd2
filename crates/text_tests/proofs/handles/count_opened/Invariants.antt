use Rattle.std.proofs.Common.{◌<◌, length}
use Rattle.text_tests.proofs.handles.count_opened.Given as goal

abbrev pub invariant-loop-number : goal.invariant-loop-number
invariant-loop-number l = 0 < length l.handles

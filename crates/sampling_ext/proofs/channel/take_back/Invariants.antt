use Rattle.std.proofs.Common.{◌≡◌, ◌++◌, map, take, drop, false}
use Rattle.sampling_ext.proofs.channel.take_back.Given as goal

-- the marks so far are taken back, and the others are as they were
abbrev pub invariant-loop-mark : goal.invariant-loop-mark
invariant-loop-mark l = l.marks ≡ map (λ mark. false) (take l.mark-index l.initial.marks) ++ drop l.mark-index l.initial.marks

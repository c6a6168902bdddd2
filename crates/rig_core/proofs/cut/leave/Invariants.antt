use Rattle.std.proofs.Common.{◌≡◌, ℕ, ◌<◌}
use Rattle.std.specs.Prelude.{if◌then◌else◌}
use Rattle.rig_core.specs.Bytes.{byte}
use Rattle.rig_core.specs.Cuts.{leaves_byte}
use Rattle.rig_core.proofs.cut.leave.Given as goal

-- the bytes before this one are as they are left, the others as they were
abbrev pub invariant-loop-k : goal.invariant-loop-k
invariant-loop-k l = record {
  before : (j : ℕ) → j < l.k → byte l.image j ≡ (if leaves_byte l.left j then byte l.view j else byte l.initial.image j);
  from : (j : ℕ) → (j < l.k → ⊥) → byte l.image j ≡ byte l.initial.image j;
}

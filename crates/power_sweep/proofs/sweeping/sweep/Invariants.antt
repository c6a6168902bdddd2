use Rattle.std.specs.Prelude.{◌≡◌, ◌+◌, ◌*◌, ◌≤◌}
use Rattle.power_sweep.specs.Counts.{AreMounted, HasRoom}
use Rattle.power_sweep.proofs.sweeping.sweep.Given as goal

abbrev pub invariant-loop-passed : goal.invariant-loop-passed
invariant-loop-passed l =
    (l.table ≡ l.initial.table) × (l.swept.calls ≡ l.initial.swept.calls) × AreMounted l.initial.table l.script (3 * (l.passed + 1)) l.swept × HasRoom 0 l.swept
    × (l.initial.swept.files ≤ l.swept.files)

use Rattle.std.specs.Prelude.{◌≡◌, ◌≤◌, ◌*◌, ◌-◌, ◌^◌, sum_by, take}
use Rattle.power_sweep.specs.Stores.{files_in}
use Rattle.power_sweep.proofs.mounted.file_count.Given as goal

abbrev pub invariant-loop-tree : goal.invariant-loop-tree
invariant-loop-tree l = (l.files ≡ sum_by files_in (take l.tree l.trees)) × (l.files ≤ l.tree * (2 ^ 32 - 1))

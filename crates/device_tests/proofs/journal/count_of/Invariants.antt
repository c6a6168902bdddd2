use Rattle.std.proofs.Common.{◌≡◌, ◌≤◌}
use Rattle.rig_core.specs.MemRig.{mem_state}
use Rattle.meta_journal.specs.Journal.{first_of}
use Rattle.device_tests.proofs.journal.count_of.Given as goal

abbrev pub invariant-loop-count : goal.invariant-loop-count
invariant-loop-count l = record {
  first : first_of l.journal ≡ 0;
  fits : 32768 ≤ (mem_state l.rig).size;
}

-- Reads one after the other.
use Rattle.std.proofs.Common.{◌∙◌, arith}
use Rattle.rig_core.specs.Outside.{Outside, OnlyReads}

pub reads_then : (V : Type 0) (o m e : Outside) → OnlyReads V o m → OnlyReads V m e → OnlyReads V o e
reads_then V o m e first second = record {
  later = record {
    size = second.later.size ∙ first.later.size;
    clock = omega (arith, first.clock, second.clock);
    read_faults = omega (arith, first.later.read_faults, second.later.read_faults);
    write_faults = omega (arith, first.later.write_faults, second.later.write_faults);
    tell_faults = omega (arith, first.later.tell_faults, second.later.tell_faults);
  };
  made = record {
    writes = omega (arith, first.made.writes, second.made.writes);
    syncs = omega (arith, first.made.syncs, second.made.syncs);
    tells = omega (arith, first.made.tells, second.made.tells);
  };
  clock = second.clock ∙ first.clock;
  told = second.told ∙ first.told;
  view = λ tells. second.view tells ∙ first.view tells;
  cuts = λ t image told le left. first.cuts t image told le (second.cuts t image told (omega (arith, le, first.clock)) left);
}

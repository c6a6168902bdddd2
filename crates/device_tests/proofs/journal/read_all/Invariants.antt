use Rattle.std.proofs.Common.{◌≡◌}
use Rattle.rig_core.specs.Outside.{OnlyReads}
use Rattle.meta_journal.specs.Journal.{first_of, HasRead}
use Rattle.device_tests.proofs.journal.read_all.Given as goal

abbrev pub invariant-loop-count : goal.invariant-loop-count
invariant-loop-count g l = record {
  first : first_of l.journal ≡ first_of l.initial.journal;
  reads : OnlyReads g.R.Rig.tells_view (g.R.Rig.state l.initial.rig) (g.R.Rig.state l.rig);
  read : g.R.Rig.tells_view → HasRead l.journal (g.R.Rig.state l.initial.rig).view;
}

use Rattle.std.proofs.Common.{◌*◌, sum_by}
use Rattle.apex_model.specs.Layout.{logbook_blocks, logbook_start}
use Rattle.rig_core.specs.Outside.{MakesAtMost}
use Rattle.recover_scan.specs.Format.{ChangesOnly, SparesRest}
use Rattle.recover_scan.proofs.Ordered.{EmptyLogbooksBelow}
use Rattle.recover_scan.proofs.metadata.write_logbooks.Given as goal

-- only logbooks changed, and those so far are empty
abbrev pub invariant-loop-logbook : goal.invariant-loop-logbook
invariant-loop-logbook g l = record {
  changes : ChangesOnly g.R.Rig.tells_view (512 * logbook_start l.table 0) (512 * sum_by logbook_blocks l.table.logbooks) (g.R.Rig.state l.initial.rig) (g.R.Rig.state l.rig);
  spares : SparesRest g.R.Rig.tells_view l.table (g.R.Rig.state l.initial.rig) (g.R.Rig.state l.rig);
  made : MakesAtMost l.logbook 0 0 (g.R.Rig.state l.initial.rig) (g.R.Rig.state l.rig);
  empty : g.R.Rig.tells_view → EmptyLogbooksBelow l.table l.logbook (g.R.Rig.state l.rig).view;
}

use Rattle.std.proofs.Common.{◌≡◌, take}
use Rattle.rig_core.specs.Outside.{OnlyReads}
use Rattle.logbook_store.specs.Logs.{sites_of, sites_from}
use Rattle.logbook_store.proofs.Mounting.{Mounted}
use Rattle.logbook_store.proofs.logs.Logs.mount.Given as goal

-- the logbooks before this one are mounted
abbrev pub invariant-loop-logbook : goal.invariant-loop-logbook
invariant-loop-logbook g l = record {
  reads : OnlyReads g.R.Rig.tells_view (g.R.Rig.state l.initial.rig) (g.R.Rig.state l.rig);
  sites : sites_of l.books.items ≡ sites_from l.table 0 (take l.logbook l.table.logbooks);
  mounted : g.R.Rig.tells_view → Mounted l.table (g.R.Rig.state l.initial.rig).view l.logbook l.books.items;
}

use Rattle.std.proofs.Common.{take}
use Rattle.rig_core.specs.Outside.{Later, MakesAtMost}
use Rattle.logbook_store.specs.Moves.{AllBefore, IsWritten, LeavesBut, NextBody, OfOne, SameBut, moving_count}
use Rattle.logbook_store.proofs.moving.write_bodies.Given as goal

abbrev pub invariant-loop-k : goal.invariant-loop-k
invariant-loop-k g l = record {
  later : Later (g.R.Rig.state l.initial.rig) (g.R.Rig.state l.rig);
  made : MakesAtMost (moving_count (take l.k l.books)) 0 0 (g.R.Rig.state l.initial.rig) (g.R.Rig.state l.rig);
  cuts : LeavesBut (OfOne (NextBody) l.books) (g.R.Rig.state l.initial.rig) (g.R.Rig.state l.rig);
  view : g.R.Rig.tells_view → SameBut (OfOne (NextBody) l.books) (g.R.Rig.state l.initial.rig).view (g.R.Rig.state l.rig).view;
  done : g.R.Rig.tells_view → AllBefore (IsWritten (g.R.Rig.state l.rig).view) l.k l.books;
}

use Rattle.std.proofs.Common.{take}
use Rattle.rig_core.specs.Outside.{Later, MakesAtMost}
use Rattle.logbook_store.specs.Moves.{AllBefore, IsClosed, LeavesBut, OpenGate, OfOne, SameBut, moving_count}
use Rattle.logbook_store.proofs.moving.close_gates.Given as goal

abbrev pub invariant-loop-k : goal.invariant-loop-k
invariant-loop-k g l = record {
  later : Later (g.R.Rig.state l.initial.rig) (g.R.Rig.state l.rig);
  made : MakesAtMost (moving_count (take l.k l.books)) 0 0 (g.R.Rig.state l.initial.rig) (g.R.Rig.state l.rig);
  cuts : LeavesBut (OfOne (OpenGate (g.R.Rig.state l.initial.rig).view) l.books) (g.R.Rig.state l.initial.rig) (g.R.Rig.state l.rig);
  view : g.R.Rig.tells_view → SameBut (OfOne (OpenGate (g.R.Rig.state l.initial.rig).view) l.books) (g.R.Rig.state l.initial.rig).view (g.R.Rig.state l.rig).view;
  done : g.R.Rig.tells_view → AllBefore (IsClosed (g.R.Rig.state l.rig).view) l.k l.books;
}

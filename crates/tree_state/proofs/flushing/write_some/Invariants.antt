use Rattle.std.proofs.Common.{◌≡◌, ◌+◌}
use Rattle.present_files.specs.Present.{free_buffers}
use Rattle.tree_state.specs.Writes.{MakesPaid, WritesBack}
use Rattle.tree_state.proofs.flushing.write_some.Given as goal

-- so many buffers became free, each by one write at most
abbrev pub invariant-loop-count : goal.invariant-loop-count
invariant-loop-count g l = record {
  writes : WritesBack g.R.Rig.tells_view l.row l.at (g.R.Rig.state l.initial.rig) (g.R.Rig.state l.rig) l.initial.state l.state;
  paid : MakesPaid (g.R.Rig.state l.initial.rig) (g.R.Rig.state l.rig) l.initial.state l.state;
  count : free_buffers l.state.present ≡ free_buffers l.initial.state.present + l.count;
}

use Rattle.std.proofs.Common.{◌≡◌, ℕ, ◌+◌, ◌<◌, ◌≤◌}
use Rattle.present_files.specs.Present.{free_buffers}
use Rattle.tree_state.specs.Writes.{MakesPaid, WritesBack, held_count}
use Rattle.tree_state.proofs.flushing.write_back.Given as goal

-- where buffers are missing still, the files so far have none
abbrev pub invariant-loop-f : goal.invariant-loop-f
invariant-loop-f g l = record {
  writes : WritesBack g.R.Rig.tells_view l.row l.at (g.R.Rig.state l.initial.rig) (g.R.Rig.state l.rig) l.initial.state l.state;
  paid : MakesPaid (g.R.Rig.state l.initial.rig) (g.R.Rig.state l.rig) l.initial.state l.state;
  enough : l.wanted ≤ free_buffers l.state.present + l.missing;
  none : 0 < l.missing → (g : ℕ) → g < l.f → held_count l.state g ≡ 0;
}

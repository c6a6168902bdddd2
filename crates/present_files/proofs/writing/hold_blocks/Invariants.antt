use Rattle.std.proofs.Common.{◌≡◌, ◌+◌, ◌-◌, ◌≤◌}
use Rattle.rig_core.specs.Outside.{OnlyReads}
use Rattle.tree_region.specs.InStep.{data_at}
use Rattle.present_files.specs.Kept.{KeepsContents}
use Rattle.present_files.specs.Nodes.{AreHeld}
use Rattle.present_files.specs.Present.{buffer_count, IsPresent, free_buffers}
use Rattle.present_files.proofs.writing.hold_blocks.Given as goal

-- the blocks so far have buffers
abbrev pub invariant-loop-k : goal.invariant-loop-k
invariant-loop-k g l = record {
  reads : OnlyReads g.R.Rig.tells_view (g.R.Rig.state l.initial.rig) (g.R.Rig.state l.rig);
  unchanged : KeepsContents g.R.Rig.tells_view (data_at l.row l.at (g.R.Rig.state l.initial.rig).view) l.initial.present l.present;
  present : IsPresent l.row l.present;
  held : AreHeld l.present.pool l.file l.from l.k;
  buffers : buffer_count l.present ≡ buffer_count l.initial.present;
  free : free_buffers l.initial.present ≤ free_buffers l.present + (l.k - l.from);
}

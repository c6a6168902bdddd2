use Rattle.std.proofs.Common.{◌≡◌, ◌≤◌}
use Rattle.rig_core.specs.Outside.{OnlyReads}
use Rattle.meta_journal.specs.Journal.{first_of, held_of, HasRead}
use Rattle.meta_journal.specs.Leading.{records}
use Rattle.tree_region.specs.Replay.{KeepsStored}
use Rattle.tree_region.proofs.Lengths.{SameLong}
use Rattle.tree_region.proofs.Records.{IsSoFar}
use Rattle.tree_region.proofs.applying.replay.Given as goal

-- so many records were read, and the tree is the one after them
abbrev pub invariant-loop : goal.invariant-loop
invariant-loop g l = record {
  first : first_of l.journal ≡ first_of l.initial.journal;
  held : held_of l.journal ≡ l.counter;
  reads : OnlyReads g.R.Rig.tells_view (g.R.Rig.state l.initial.rig) (g.R.Rig.state l.rig);
  long : SameLong l.initial.tree l.tree;
  stored : KeepsStored l.initial.tree l.tree;
  few : g.R.Rig.tells_view → l.counter ≤ 32;
  read : g.R.Rig.tells_view → HasRead l.journal (g.R.Rig.state l.initial.rig).view;
  so_far : g.R.Rig.tells_view → IsSoFar l.version l.initial.tree (records (first_of l.initial.journal) (g.R.Rig.state l.initial.rig).view) l.counter l.tree;
}

use Rattle.std.proofs.Common.{◌≡◌, ℕ, ◌+◌, ◌*◌, ◌<◌, length}
use Rattle.rig_core.specs.Bytes.{byte}
use Rattle.rig_core.specs.Outside.{OnlyReads}
use Rattle.tree_region.specs.InStep.{data_at}
use Rattle.present_files.specs.Present.{room_bytes}
use Rattle.present_files.proofs.reading.read_blocks.Given as goal

-- the bytes of the blocks so far were read
abbrev pub invariant-loop-k : goal.invariant-loop-k
invariant-loop-k g l = record {
  long : length l.into ≡ length l.initial.into;
  reads : OnlyReads g.R.Rig.tells_view (g.R.Rig.state l.initial.rig) (g.R.Rig.state l.rig);
  done : g.R.Rig.tells_view → (i : ℕ) → i < length l.into → l.from + i < 512 * l.k → byte l.into i ≡ byte (room_bytes (data_at l.row l.at (g.R.Rig.state l.initial.rig).view) l.present l.file) (l.from + i);
}

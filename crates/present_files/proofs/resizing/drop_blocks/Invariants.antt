use Rattle.std.proofs.Common.{◌≡◌, ◌≤◌}
use Rattle.present_files.specs.Dropped.{DropsBlocks}
use Rattle.present_files.specs.Present.{IsPresent, free_buffers}
use Rattle.present_files.proofs.resizing.drop_blocks.Given as goal

-- the blocks so far are given up
abbrev pub invariant-loop-k : goal.invariant-loop-k
invariant-loop-k l = record {
  dropped : DropsBlocks l.file l.from l.k l.initial.present l.present;
  sizes : l.present.sizes ≡ l.initial.present.sizes;
  present : IsPresent l.row l.present;
  free : free_buffers l.initial.present ≤ free_buffers l.present;
}
